use Rattle.std.proofs.Common.{List, subst, get_or}
use Rattle.rtr_types.specs.declared.instr.Edge.{Edge}
use Rattle.min_certificate.specs.Firsts.{FailsFirst, FirstWithout}
use Rattle.min_certificate.specs.Sound.{IsSound}
use Rattle.std.proofs.Common.{None}
use Rattle.min_certificate.proofs.First.{no_edge, edge_at, fails_first, holds_more, holds_all}
use Rattle.min_certificate.proofs.entries.Entries.first_amiss.Goals as goal
use Rattle.min_certificate.proofs.entries.Entries.first_amiss.Goals.{then-not-is_conflict-via-then-not-is_conflict}
use Rattle.min_certificate.proofs.entries.Entries.first_amiss.Goals.{
  then-not-is_conflict-via-else-not-is_conflict+then-not-is_needed,
}

pub is_needed-requires : goal.is_needed-requires
is_needed-requires c =
    (edge_at _ c.edges-edge-items.ensures.valid c.edges-edge-items.ensures.edges c.loop-edge-test.true).leads

pub returns-then-not-is_conflict : goal.returns-then-not-is_conflict
returns-then-not-is_conflict c =
    subst (λ (l : List Edge). FailsFirst (IsSound c.args.self.now c.args.accesses.now) l
    (get_or c.edges-edge-items.result.now c.loop-edge.edge-index no_edge))
    c.edges-edge-items.ensures.edges (elim c.then-not-is_conflict.branch [
      | then-not-is_conflict-via-then-not-is_conflict w ↦
          fails_first (IsSound c.args.self.now c.args.accesses.now) c.edges-edge-items.result.now c.loop-edge.edge-index
          no_edge c.loop-edge-test.true
          c.loop-edge.invariant
          (λ s. let t = c.is_conflict.ensures.1 s.conflict in let f = w.if-not-is_conflict.true in absurd (cc))
      | then-not-is_conflict-via-else-not-is_conflict+then-not-is_needed w ↦
          fails_first (IsSound c.args.self.now c.args.accesses.now) c.edges-edge-items.result.now c.loop-edge.edge-index
          no_edge c.loop-edge-test.true
          c.loop-edge.invariant
          (λ s. let t = w.is_needed.ensures.1 s.needed in let f = w.if-not-is_needed.true in absurd (cc))
    ])

pub loop-edge-preserved : goal.loop-edge-preserved
loop-edge-preserved c =
    holds_more (IsSound c.args.self.now c.args.accesses.now) c.edges-edge-items.result.now c.loop-edge.edge-index _
    c.loop-edge-test.true c.loop-edge.invariant
    (record {
      conflict = c.is_conflict.ensures.0 c.if-not-is_conflict.false;
      needed =
          c.is_needed.ensures.0 c.if-not-is_needed.false;
    })

pub returns : goal.returns
returns c =
    subst (λ (l : List Edge). FirstWithout (IsSound c.args.self.now c.args.accesses.now) l None)
    c.edges-edge-items.ensures.edges
    (holds_all (IsSound c.args.self.now c.args.accesses.now) c.edges-edge-items.result.now c.loop-edge.edge-index
    c.loop-edge-test.false c.loop-edge.invariant)
