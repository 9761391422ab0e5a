-- The reads that are kept are of different cores, each below the instruction; the lists' own call puts the edges, and
-- the state follows.
use Rattle.std.proofs.Common.{◌∙◌, ◌<◌, ap, sym, arith, length, refl}
use Rattle.std.proofs.lemmas.List.{length-set}
use Rattle.roomy_lists.specs.Lists.{items_in}
use Rattle.online_reduce.specs.Reduced.{clock_of}
use Rattle.online_reduce.specs.Rule.{edges_into}
use Rattle.online_reduce.proofs.Drawn.{drew, found_are, none_are}
use Rattle.online_reduce.proofs.CandidateLists.{found_few}
use Rattle.online_reduce.proofs.RetiredParts.{AreFound, sources_apart, sources_pair}
use Rattle.online_reduce.proofs.Rooms.{length-after}
use Rattle.online_reduce.proofs.reducer.Reducer.add_reads.Goals as goal
use Rattle.online_reduce.proofs.reducer.Reducer.add_reads.Goals.{After-new-found, After-index-self-own-2}

-- the access's core has a clock
within : (c : After-new-found) → c.args.access.now.at.core < length c.self.inside.clocks
within c =
    let cores_are = ap (λ v. v.state.cores) c.self.view_is in
    let own = c.requires.own in
    omega (arith, c.self.invariant.0, c.self.invariant.1)

-- some reads were found
are : (c : After-index-self-own-2) → c.args.access.now.at.core < length c.self.inside.clocks
    → AreFound c.args.self.now.state c.args.access.now c.args.times.now c.new-found.result
are c inside = found_are _ _ _ _ _ _ (ap (λ v. v.state) c.self.view_is) inside c.new-found.ensures
    (sym c.is_empty.ensures ∙ c.if-is_empty.false)

pub add_reads-requires-clause-few : goal.add_reads-requires-clause-few
add_reads-requires-clause-few c =
    let at = goal.at.add_reads-requires-clause-few c in
    let cores_are = ap (λ v. v.state.cores) c.self.view_is in
    omega (
      arith,
      ap length (are at.After-index-self-own-2 (within at.After-new-found)),
      found_few c.args.self.now.state.cores (clock_of c.args.self.now.state c.args.access.now.at.core)
          c.args.access.now c.args.times.now (omega (arith, c.self.invariant.0)),
    )

pub add_reads-requires-clause-each : goal.add_reads-requires-clause-each
add_reads-requires-clause-each c =
    let at = goal.at.add_reads-requires-clause-each c in
    sources_pair _ c.args.self.now.state c.args.access.now c.args.times.now _
    (ap (λ v. v.state.cores) c.self.view_is) c.requires.own
    (are at.After-index-self-own-2 (within at.After-new-found))

pub add_reads-requires-clause-apart : goal.add_reads-requires-clause-apart
add_reads-requires-clause-apart c =
    let at = goal.at.add_reads-requires-clause-apart c in
    sources_apart c.args.self.now.state c.args.access.now c.args.times.now _
    (are at.After-index-self-own-2 (within at.After-new-found))

pub invariant_of-self : goal.invariant_of-self
invariant_of-self c = (
  c.self.invariant.0,
  length-set c.self.inside.clocks c.args.access.now.at.core _ ∙ c.self.invariant.1,
  length-after c.self.inside.cores c.self.inside.pairs c.add_reads.new.pairs _ c.add_reads.ensures.lists
      ∙ c.self.invariant.2,
)

pub returns-clause-state : goal.returns-clause-state
returns-clause-state c read =
    let at = goal.at.returns-clause-state c in
    drew _ _ _ _ c.new-found.result c.index-self-own-2.result c.add_reads.new.clock (items_in c.add_reads.new.pairs)
    (ap (λ v. v.state) c.self.view_is) (within at.After-new-found)
    (are at.After-index-self-own-2 (within at.After-new-found)) c.add_reads.ensures.clock c.add_reads.ensures.lists

pub returns-clause-edges : goal.returns-clause-edges
returns-clause-edges c read =
    let at = goal.at.returns-clause-edges c in
    c.add_reads.ensures.edges
    ∙ ap (edges_into c.args.access.now.at) (are at.After-index-self-own-2 (within at.After-new-found))

pub returns-then-is_empty-clause-unread : goal.returns-then-is_empty-clause-unread
returns-then-is_empty-clause-unread c unread = (
  refl,
  c.requires.none,
  none_are _ _ _ _ _ _ (ap (λ v. v.state) c.self.view_is)
      (within (goal.at.returns-then-is_empty-clause-unread c).After-new-found) c.new-found.ensures
      (sym c.is_empty.ensures ∙ c.if-is_empty.true),
)
