-- The edge changes its own pair's list alone: there the newest vector goes on, or a new one opens; what the seat awaits
-- follows in both cases.
use Rattle.std.proofs.Common.{◌≡◌, ℕ, ◌-◌, ◌++◌, ◌∷◌, [], List, length, refl, sym, ap, subst, ◌∙◌, ◌<◌, ◌≤◌, arith}
use Rattle.std.specs.Prelude.{All, slice_set}
use Rattle.stride_vector.specs.declared.StrideVector.{StrideVector}
use Rattle.roomy_lists.specs.Lists.{Listed, items_at, items_in}
use Rattle.rtr_types.specs.PairEdges.{counts, with_edge}
use Rattle.know_history.specs.Notes.{Notes, noted_count}
use Rattle.edge_regulate.specs.declared.seat.Awaited.{Awaited}
use Rattle.edge_regulate.specs.declared.seat.Seat.{Seat}
use Rattle.edge_regulate.specs.Awaiting.{IsAwaited, newest, none_awaited, up_to}
use Rattle.edge_regulate.specs.Greedy.{Knows, told}
use Rattle.edge_regulate.specs.Regulated.{IsGrowing, Regulation, end_target}
use Rattle.edge_regulate.specs.Seats.{Following, Follows}
use Rattle.edge_regulate.proofs.AwaitedAfterEach.{Holds, IsPut, edge_before, edge_ends, edge_follows, held_by}
use Rattle.edge_regulate.proofs.AwaitedAfterEach.{seat_was, seated, step_new, step_on}
use Rattle.edge_regulate.proofs.NewestVector.{told_ends}
use Rattle.edge_regulate.proofs.Rooms.{growing_at, growing_more, growing_on, length-items, long_more}
use Rattle.edge_regulate.proofs.regulator.Regulator.edge.Goals as goal
use Rattle.edge_regulate.proofs.regulator.Regulator.edge.Goals.{After-awaited, After-set_last}

pub invariant_of-self : goal.invariant_of-self
invariant_of-self c =
    let all = c.self.inside.pairs in
    let more = c.set_last.new.self in
    let place = c.pair_at-place.result in
    let list = items_at all place in
    let v = c.in-Some.taken.vector in
    let within = c.pair_at-place.ensures.within in (
      c.self.invariant.0,
      long_more all more place (slice_set list (length list - 1) v) c.set_last.ensures.items ∙ c.self.invariant.1,
      growing_on all more place v (omega (arith, within, c.self.invariant.1)) c.in-Some.ensures.growing
          c.set_last.ensures.items c.self.invariant.2,
      c.self.invariant.3,
    )

pub invariant_of-self-in-None : goal.invariant_of-self-in-None
invariant_of-self-in-None c =
    let all = c.self.inside.pairs in
    let more = c.push.new.self in
    let place = c.pair_at-place.result in
    let v = c.opened.result in
    let within = c.pair_at-place.ensures.within in (
      c.self.invariant.0,
      long_more all more place (items_at all place ++ v ∷ []) c.push.ensures.items ∙ c.self.invariant.1,
      growing_more all more place v (omega (arith, within, c.self.invariant.1)) c.opened.ensures.growing
          c.push.ensures.items c.self.invariant.2,
      c.self.invariant.3,
    )

-- what the regulator held, and its vectors with these lists
abbrev before : (c : After-awaited) → Following
before c = held_by c.self.inside.cores c.self.inside.pairs c.self.inside.seats.items

abbrev after : (c : After-awaited) (more : List (Listed StrideVector)) → Regulation
after c more = (held_by c.self.inside.cores more []).regulation

held : (c : After-awaited) (more : List (Listed StrideVector)) (made : List StrideVector) →
    items_in more ≡ slice_set (items_in c.self.inside.pairs) c.pair_at-place.result made →
    Holds (before c) (after c more) c.args.edge c.pair_at-place.result c.list.result.now made
held c more made is = record {
  cores = refl;
  long = length-items c.self.inside.pairs ∙ c.self.invariant.1;
  place_is = c.pair_at-place.ensures.place;
  list_is = c.list.ensures;
  made_is = is;
}

growing : (c : After-awaited) → All IsGrowing c.list.result.now
growing c = subst (λ (vs : List StrideVector). All IsGrowing vs) (sym c.list.ensures)
    (growing_at c.self.inside.pairs c.pair_at-place.result
    (let within = c.pair_at-place.ensures.within in let long = c.self.invariant.1 in omega arith) c.self.invariant.2)

later : (c : After-awaited) → end_target c.list.result.now < c.args.edge.to.count
later c = edge_before c.args.self.now (before c) c.args.edge c.pair_at-place.result c.list.result.now c.self.view_is
    c.requires.next c.pair_at-place.ensures.place c.list.ensures

-- lists with this one made, and a seat with this put into it, follow where the edge told makes the list
follows : (c : After-awaited) (more : List (Listed StrideVector)) (made : List StrideVector) (seat : Seat)
    (w : Awaited) → items_in more ≡ slice_set (items_in c.self.inside.pairs) c.pair_at-place.result made →
    IsPut c.index_mut-seat.result.now seat c.args.edge.from.core w →
    ((knows : Knows) (noted : ℕ) → noted ≡ c.args.edge.to.count →
    IsAwaited knows noted (newest c.list.result.now) c.awaited.result.now →
    (told knows c.list.result.now (counts c.args.edge) ≡ made) × IsAwaited knows noted (newest made) w) →
    (notes : Notes) (edges : List (List (ℕ × ℕ))) →
    c.args.edge.to.count ≡ noted_count notes c.args.edge.to.core → Follows notes edges c.args.self.now →
    Follows notes (with_edge c.args.self.now.regulation.cores edges c.args.edge) (record {
      regulation = after c more;
      seats = slice_set c.self.inside.seats.items c.args.edge.to.core seat;
    })
follows c more made seat w is put step =
    let f = before c in
    let seats = seated f c.args.self.now c.args.edge c.self.inside.seats.len c.self.view_is c.requires.next
    (let ok = c.self.inside.seats.ok.0 in omega arith) c.self.invariant.3 in
    edge_follows c.args.self.now f (after c more) c.args.edge c.index_mut-seat.result.now seat c.pair_at-place.result
    c.list.result.now made c.awaited.result.now w c.self.view_is c.requires.next seats (omega arith)
    (held c more made is)
    (seat_was f c.args.edge.to.core c.index_mut-seat.result.now seats c.index_mut-seat.ensures.value)
    c.awaited.ensures put step

-- the newest vector goes on
went_on : (c : After-set_last) → items_in c.set_last.new.self ≡ slice_set (items_in c.self.inside.pairs)
    c.pair_at-place.result (slice_set c.list.result.now (length c.list.result.now - 1) c.in-Some.taken.vector)
went_on c = c.set_last.ensures.items ∙ ap (λ (vs : List StrideVector). slice_set (items_in c.self.inside.pairs)
    c.pair_at-place.result (slice_set vs (length vs - 1) c.in-Some.taken.vector)) (sym c.list.ensures)

pub returns-in-Some-clause-follows : goal.returns-in-Some-clause-follows
returns-in-Some-clause-follows c =
    let list = c.list.result.now in
    let v = c.in-Some.taken.vector in
    let told = (goal.at.returns-in-Some-clause-follows c).After-awaited in
    follows told c.set_last.new.self (slice_set list (length list - 1) v) c.put.new.self c.in-Some.taken.awaited
    (went_on (goal.at.returns-in-Some-clause-follows c).After-set_last)
    (record {
      at = c.put.ensures.at;
      others = c.put.ensures.others;
      before = c.put.ensures.before;
      lower = c.put.ensures.lower;
      greatest = c.put.ensures.greatest;
    })
    (step_on list c.awaited.result.now c.in-Some.taken.awaited (counts c.args.edge) v (growing told) (later told)
    c.in-Some.ensures.some c.in-Some.ensures.taken.0 c.in-Some.ensures.taken.1 c.in-Some.ensures.taken.2)

pub returns-in-Some-clause-ends : goal.returns-in-Some-clause-ends
returns-in-Some-clause-ends c =
    let list = c.list.result.now in
    let made = slice_set list (length list - 1) c.in-Some.taken.vector in
    let told = (goal.at.returns-in-Some-clause-ends c).After-awaited in
    edge_ends c.args.self.now (before told) (after told c.set_last.new.self) c.args.edge c.pair_at-place.result list
    made c.self.view_is c.requires.next
    (held told c.set_last.new.self made (went_on (goal.at.returns-in-Some-clause-ends c).After-set_last))
    (subst (λ (u : StrideVector). end_target (slice_set list (length list - 1) u) ≤ c.args.edge.to.count)
    (sym c.in-Some.ensures.taken.1)
    (told_ends (up_to c.awaited.result.now.reached) list (counts c.args.edge) c.in-Some.ensures.some
    c.in-Some.ensures.taken.0 (later told)))

pub returns-in-None-clause-follows : goal.returns-in-None-clause-follows
returns-in-None-clause-follows c =
    let list = c.list.result.now in
    let v = c.opened.result in
    let told = (goal.at.returns-in-None-clause-follows c).After-awaited in
    follows told c.push.new.self (list ++ v ∷ []) c.put-in-None.new.self none_awaited
    (c.push.ensures.items
    ∙ ap (λ (vs : List StrideVector). slice_set (items_in c.self.inside.pairs) c.pair_at-place.result (vs ++ v ∷ []))
    (sym c.list.ensures))
    (subst (λ (w : Awaited). IsPut c.index_mut-seat.result.now c.put-in-None.new.self c.args.edge.from.core w)
    c.none.ensures
    (record {
      at = c.put-in-None.ensures.at;
      others = c.put-in-None.ensures.others;
      before = c.put-in-None.ensures.before;
      lower = c.put-in-None.ensures.lower;
      greatest = c.put-in-None.ensures.greatest;
    }))
    (step_new list c.awaited.result.now (counts c.args.edge) v (growing told) c.in-None.ensures.refused
    c.opened.ensures.value)
