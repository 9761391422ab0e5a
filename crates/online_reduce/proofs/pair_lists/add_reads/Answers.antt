-- Core by core, lowest first: the reads taken so far have their edges at the ends of their own pairs' lists, and these
-- alone have changed.
use Rattle.std.proofs.Common.{◌≡◌, ◌∙◌, ◌++◌, ◌∷◌, [], ap, arith, length, refl, sym, take, List}
use Rattle.std.proofs.lemmas.List.{length_push}
use Rattle.roomy_lists.specs.Lists.{items_in}
use Rattle.rtr_types.specs.Pairs.{pair_place}
use Rattle.rtr_types.specs.PairEdges.{with_edges}
use Rattle.online_reduce.specs.Rule.{edge_to}
use Rattle.online_reduce.specs.declared.source.Source.{Source}
use Rattle.online_reduce.proofs.ReadLoop.{next_pair, none_added}
use Rattle.online_reduce.proofs.ListRests.{all_left, next_left, none_left, none_seen, seen}
use Rattle.online_reduce.proofs.Loops.{chosen, chosen_push, chosen_skip, chosen_all, merged_more, merged_all}
use Rattle.online_reduce.proofs.Rooms.{added, length-after, room_left, room_next, room_same}
use Rattle.online_reduce.proofs.pair_lists.add_reads.Goals as goal
use Rattle.online_reduce.proofs.pair_lists.add_reads.Goals.{then-is_kept, else-is_kept}

pub loop-from-init : goal.loop-from-init
loop-from-init c =
    let found = c.args.found.now in
    let pairs = c.args.pairs.now in
    let clock = c.args.clock.now in
    let edges = c.args.edges.now in
    rw (c.copied-left.ensures, none_seen found) (
      all_left found,
      none_added c.args.cores c.args.at found pairs clock edges c.requires.none c.requires.lists c.requires.each
          c.requires.room,
    )

pub is_kept-requires : goal.is_kept-requires
is_kept-requires c =
    let pair = next_pair c.args.cores c.args.at c.args.found.now c.loop-from.left c.pop.new.self
    (record { at = c.in-Some.from; clock = c.in-Some.other.now })
    (next_left c.args.found.now c.loop-from.left c.pop.new.self
    (record { at = c.in-Some.from; clock = c.in-Some.other.now }) c.loop-from.invariant.0
    c.in-Some.ensures) c.requires.each in
    let below = pair.source in
    omega (arith, c.requires.cores)

pub add_edge-requires-clause-pair : goal.add_edge-requires-clause-pair
add_edge-requires-clause-pair c =
    next_pair c.args.cores c.args.at c.args.found.now c.loop-from.left c.pop.new.self
    (record { at = c.in-Some.from; clock = c.in-Some.other.now })
    (next_left c.args.found.now c.loop-from.left c.pop.new.self
    (record { at = c.in-Some.from; clock = c.in-Some.other.now }) c.loop-from.invariant.0
    c.in-Some.ensures) c.requires.each

pub add_edge-requires-clause-room : goal.add_edge-requires-clause-room
add_edge-requires-clause-room c =
    let s : Source = record { at = c.in-Some.from; clock = c.in-Some.other.now } in
    let n = next_left c.args.found.now c.loop-from.left c.pop.new.self s c.loop-from.invariant.0 c.in-Some.ensures in
    room_next c.args.cores c.args.at c.args.found.now c.loop-from.pairs (seen c.args.found.now c.loop-from.left)
    (pair_place c.args.cores s.at.core c.args.at.core) s n.within n.at refl c.loop-from.invariant.1.room

pub add_edge-requires-clause-lists : goal.add_edge-requires-clause-lists
add_edge-requires-clause-lists c =
    length-after c.args.cores c.args.pairs.now c.loop-from.pairs
    (chosen c.args.at c.args.found.now (take (seen c.args.found.now c.loop-from.left) c.args.found.now))
    c.loop-from.invariant.1.lists
    ∙ c.requires.lists

pub loop-from-preserved : goal.loop-from-preserved
loop-from-preserved c =
    let at = c.args.at in
    let found = c.args.found.now in
    let l = c.loop-from in
    let before = l.invariant.1 in
    let i = seen found l.left in
    let s : Source = record { at = c.in-Some.from; clock = c.in-Some.other.now } in
    let place = pair_place c.args.cores s.at.core at.core in
    let n = next_left found l.left c.pop.new.self s l.invariant.0 c.in-Some.ensures in
    let edges = chosen at found (take i found) in
    rw (n.one) (
      n.left_is,
      elim c.if-is_kept.branch [
        | then-is_kept w ↦
            rw (w.pairs-is, w.edges-is) (
            record {
              lists = added c.args.cores (items_in c.args.pairs.now) (items_in l.pairs)
                  (items_in w.add_edge.new.pairs) edges place
                  (edge_to at s) refl w.add_edge.ensures.lists before.lists
                  ∙ ap (with_edges c.args.cores (items_in c.args.pairs.now))
                  (chosen_push at found i s edges (edges ++ edge_to at s ∷ []) c.is_kept.result n.within n.at
                  c.is_kept.ensures w.if-is_kept.true refl refl);
              edges_are = chosen_push at found i s l.edges w.add_edge.new.edges c.is_kept.result n.within n.at
                  c.is_kept.ensures w.if-is_kept.true
                  w.add_edge.ensures.edges before.edges_are;
              few = omega (arith, before.few, ap length w.add_edge.ensures.edges, length_push l.edges (edge_to at s));
              clock_is = merged_more c.args.clock.now l.clock c.join.new.self found i s n.within n.at
                  c.join.ensures.value before.clock_is;
              room = room_left c.args.cores at found l.pairs w.add_edge.new.pairs i place s n.within n.at refl
                  c.requires.each c.requires.apart
                  w.add_edge.ensures.others before.room;
            }
            )
        | else-is_kept w ↦
            rw (w.pairs-is, w.edges-is) (
            record {
              lists = before.lists
                  ∙ ap (with_edges c.args.cores (items_in c.args.pairs.now))
                  (chosen_skip at found i s edges c.is_kept.result n.within n.at c.is_kept.ensures w.if-is_kept.false
                  refl);
              edges_are = chosen_skip at found i s l.edges c.is_kept.result n.within n.at c.is_kept.ensures
                  w.if-is_kept.false before.edges_are;
              few = omega (arith, before.few);
              clock_is = merged_more c.args.clock.now l.clock c.join.new.self found i s n.within n.at
                  c.join.ensures.value before.clock_is;
              room = room_same c.args.cores at found l.pairs i before.room;
            }
            )
      ],
    )

-- all were taken out
all_seen : (c : goal.In_default) → length c.args.found.now ≡ seen c.args.found.now c.loop-from.left
all_seen c = sym (ap (λ (left : List Source). seen c.args.found.now left) c.in_default.ensures.0
    ∙ none_left c.args.found.now)

pub returns-clause-lists : goal.returns-clause-lists
returns-clause-lists c =
    c.loop-from.invariant.1.lists
    ∙ ap (with_edges c.args.cores (items_in c.args.pairs.now))
    (chosen_all c.args.at c.args.found.now (seen c.args.found.now c.loop-from.left) _ (all_seen c) refl)

pub returns-clause-edges : goal.returns-clause-edges
returns-clause-edges c =
    chosen_all c.args.at c.args.found.now (seen c.args.found.now c.loop-from.left) c.loop-from.edges (all_seen c)
    c.loop-from.invariant.1.edges_are

pub returns-clause-clock : goal.returns-clause-clock
returns-clause-clock c =
    merged_all c.args.clock.now c.loop-from.clock c.args.found.now (seen c.args.found.now c.loop-from.left) (all_seen c)
    c.loop-from.invariant.1.clock_is
