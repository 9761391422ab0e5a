use Rattle.std.proofs.Common.{arith}
use Rattle.vector_reduce.proofs.checking.first_not_shown.Goals as goal

pub returns : goal.returns
returns c k lt = c.loop-number.invariant k (omega (arith, lt, c.loop-number-test.false))
