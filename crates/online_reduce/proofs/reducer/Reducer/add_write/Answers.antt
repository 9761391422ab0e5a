-- The write is a covering source exactly where the core's clock hasn't reached it: with its edge put, or without one,
-- the state is what the definition says.
use Rattle.std.proofs.Common.{◌∙◌, ap, sym, subst, arith, length, ◌<◌, [], ◌∷◌, ◌++◌, List}
use Rattle.std.specs.Prelude.{Some, None, IsTrue}
use Rattle.std.proofs.lemmas.List.Elements.{All-get_or}
use Rattle.roomy_lists.specs.Lists.{items_in}
use Rattle.roomy_lists.proofs.Rooms.{ready_each}
use Rattle.rtr_types.specs.Pairs.{IsPair, pair_place}
use Rattle.rtr_types.specs.declared.instr.Edge.{Edge}
use Rattle.rtr_types.proofs.PairPlaces.{pairs-placed}
use Rattle.online_reduce.specs.Rule.{edge_to, edges_into}
use Rattle.online_reduce.specs.LiveReads.{drawn}
use Rattle.online_reduce.specs.declared.source.Source.{Source}
use Rattle.online_reduce.proofs.Drawn.{drawn_none, drew_one, no_edges, one_edge, write_is}
use Rattle.online_reduce.proofs.RetiredParts.{AreFound, sources_pair}
use Rattle.online_reduce.proofs.reducer.Reducer.add_write.Goals as goal
use Rattle.online_reduce.proofs.reducer.Reducer.add_write.Goals.{After-index-self-own, In-Some, In_default}

-- the access's core has a clock
within : (c : After-index-self-own) → c.args.access.now.at.core < length c.self.inside.clocks
within c =
    let cores_are = ap (λ v. v.state.cores) c.self.view_is in
    let own = c.requires.own in
    omega (arith, c.self.invariant.0, c.self.invariant.1)

-- the write that was found
abbrev found : In-Some → Source
found c = record { at = c.in-Some.from; clock = c.in-Some.clock.now }

is_found : (c : In-Some) → c.args.access.now.at.core < length c.self.inside.clocks
    → AreFound c.args.self.now.state c.args.access.now c.args.times.now (found c ∷ [])
is_found c inside = write_is _ _ _ _ _ (Some (found c)) (ap (λ v. v.state) c.self.view_is) inside c.requires.unread
    c.in-Some.ensures

none_found : (c : In_default) → c.args.access.now.at.core < length c.self.inside.clocks
    → AreFound c.args.self.now.state c.args.access.now c.args.times.now []
none_found c inside = write_is _ _ _ _ _ None (ap (λ v. v.state) c.self.view_is) inside c.requires.unread
    c.in_default.ensures

pub add_edge-requires-clause-room : goal.add_edge-requires-clause-room
add_edge-requires-clause-room c =
    let at = goal.at.add_edge-requires-clause-room c in
    let s : Source = record { at = c.in-Some.from; clock = c.in-Some.clock.now } in
    let cores = c.self.inside.cores in
    let core = c.args.access.now.at.core in
    let cores_are = ap (λ v. v.state.cores) c.self.view_is in
    let pair = All-get_or (λ (v : Source). IsPair cores v.at.core core) (s ∷ []) 0 s (omega arith)
    (sources_pair cores c.args.self.now.state c.args.access.now c.args.times.now (s ∷ []) cores_are c.requires.own
    (is_found at.In-Some (within at.After-index-self-own))) in
    let placed = pairs-placed cores s.at.core core pair in
    ready_each c.self.inside.pairs (pair_place cores s.at.core core)
    (subst IsTrue (sym (ap (λ v. v.ready) c.self.view_is)) c.requires.ready)
    (omega (arith, placed.0, c.self.invariant.2))

pub returns-in-Some-clause-state : goal.returns-in-Some-clause-state
returns-in-Some-clause-state c =
    let at = goal.at.returns-in-Some-clause-state c in
    drew_one _ _ _ _ (found at.In-Some) c.index-self-own-in-Some.result c.join.new.self (items_in c.add_edge.new.pairs)
    (ap (λ v. v.state) c.self.view_is) (within at.After-index-self-own)
    (is_found at.In-Some (within at.After-index-self-own)) c.join.ensures.value c.add_edge.ensures.lists

pub returns-in-Some-clause-edges : goal.returns-in-Some-clause-edges
returns-in-Some-clause-edges c =
    let at = goal.at.returns-in-Some-clause-edges c in
    let to = c.args.access.now.at in
    c.add_edge.ensures.edges ∙ ap (λ (es : List Edge). es ++ edge_to to (found at.In-Some) ∷ []) c.requires.none
    ∙ sym (one_edge to (found at.In-Some))
    ∙ ap (edges_into to) (is_found at.In-Some (within at.After-index-self-own))

pub returns-in_default-clause-state : goal.returns-in_default-clause-state
returns-in_default-clause-state c =
    let at = goal.at.returns-in_default-clause-state c in
    sym (drawn_none c.args.self.now.state c.args.access.now.at)
    ∙ ap (drawn c.args.self.now.state c.args.access.now.at)
    (none_found at.In_default (within at.After-index-self-own))

pub returns-in_default-clause-edges : goal.returns-in_default-clause-edges
returns-in_default-clause-edges c =
    let at = goal.at.returns-in_default-clause-edges c in
    c.requires.none ∙ sym (no_edges c.args.access.now.at)
    ∙ ap (edges_into c.args.access.now.at) (none_found at.In_default (within at.After-index-self-own))
