use Rattle.std.proofs.Common.{List, subst, get_or}
use Rattle.rtr_types.specs.declared.instr.Edge.{Edge}
use Rattle.min_certificate.specs.Firsts.{FailsFirst, FirstWithout}
use Rattle.min_certificate.specs.Places.{IsNeededIn}
use Rattle.std.proofs.Common.{None}
use Rattle.min_certificate.proofs.First.{no_edge, edge_at, fails_first, holds_more, holds_all}
use Rattle.min_certificate.proofs.entries.Entries.first_not_needed.Goals as goal

pub is_needed-requires : goal.is_needed-requires
is_needed-requires c =
    (edge_at _ c.edges-edge-items.ensures.valid c.edges-edge-items.ensures.edges c.loop-edge-test.true).leads

pub returns-then-not-is_needed : goal.returns-then-not-is_needed
returns-then-not-is_needed c =
    subst (λ (l : List Edge). FailsFirst (IsNeededIn c.args.self.now) l
    (get_or c.edges-edge-items.result.now c.loop-edge.edge-index no_edge))
    c.edges-edge-items.ensures.edges
    (fails_first (IsNeededIn c.args.self.now) c.edges-edge-items.result.now c.loop-edge.edge-index _
    c.loop-edge-test.true c.loop-edge.invariant (λ n. let t =
    c.is_needed.ensures.1 n in let f = c.if-not-is_needed.true in absurd (cc)))

pub loop-edge-preserved : goal.loop-edge-preserved
loop-edge-preserved c =
    holds_more (IsNeededIn c.args.self.now) c.edges-edge-items.result.now c.loop-edge.edge-index _ c.loop-edge-test.true
    c.loop-edge.invariant
    (c.is_needed.ensures.0 c.if-not-is_needed.false)

pub returns : goal.returns
returns c =
    subst (λ (l : List Edge). FirstWithout (IsNeededIn c.args.self.now) l None) c.edges-edge-items.ensures.edges
    (holds_all (IsNeededIn c.args.self.now) c.edges-edge-items.result.now c.loop-edge.edge-index c.loop-edge-test.false
    c.loop-edge.invariant)
