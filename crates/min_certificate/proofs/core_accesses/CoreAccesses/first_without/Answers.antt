use Rattle.min_certificate.specs.Conflicting.{BothConflict}
use Rattle.min_certificate.proofs.First.{fails_first, holds_more, holds_all}
use Rattle.min_certificate.proofs.core_accesses.CoreAccesses.first_without.Goals as goal

pub returns-then-not-is_conflict : goal.returns-then-not-is_conflict
returns-then-not-is_conflict c =
    fails_first (BothConflict c.args.self.now) c.args.edges.now c.loop-edge.edge-index _ c.loop-edge-test.true
    c.loop-edge.invariant (λ n. let t =
    c.is_conflict.ensures.1 n in let f = c.if-not-is_conflict.true in absurd (cc))

pub loop-edge-preserved : goal.loop-edge-preserved
loop-edge-preserved c =
    holds_more (BothConflict c.args.self.now) c.args.edges.now c.loop-edge.edge-index _ c.loop-edge-test.true
    c.loop-edge.invariant
    (c.is_conflict.ensures.0 c.if-not-is_conflict.false)

pub returns : goal.returns
returns c = holds_all (BothConflict c.args.self.now) c.args.edges.now c.loop-edge.edge-index c.loop-edge-test.false
    c.loop-edge.invariant
