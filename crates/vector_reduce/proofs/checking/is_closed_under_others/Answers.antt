use Rattle.std.proofs.Common.{refl, arith}
use Rattle.vector_reduce.proofs.CheckedCuts.{closed_more, closed_others, others_closed}
use Rattle.vector_reduce.proofs.checking.is_closed_under_others.Goals as goal

pub returns-then-not-is_closed_unless : goal.returns-then-not-is_closed_unless
returns-then-not-is_closed_unless c = (
  λ t. absurd cc,
  λ closed. absurd (let t =
      c.is_closed_unless.ensures.1
      (λ ne. others_closed c.args.vectors.now c.args.number c.loop-other.other c.args.cut.now closed
      c.loop-other-test.true ne) in let f = c.if-not-is_closed_unless.true in cc),
)

pub loop-other-preserved : goal.loop-other-preserved
loop-other-preserved c =
    closed_more c.args.vectors.now c.args.number c.loop-other.other c.args.cut.now c.loop-other.invariant
    (c.is_closed_unless.ensures.0 c.if-not-is_closed_unless.false)

pub returns : goal.returns
returns c = (
  λ t. closed_others c.args.vectors.now c.args.number c.args.cut.now
      (λ j lt ne. c.loop-other.invariant j (omega (arith, lt, c.loop-other-test.false)) ne),
  λ closed. refl,
)
