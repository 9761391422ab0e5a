use Rattle.std.proofs.Common.{ℕ, ◌<◌}
use Rattle.vector_reduce.specs.Showing.{IsShownAmong}
use Rattle.vector_reduce.proofs.checking.first_not_shown.Given as goal

abbrev pub invariant-loop-number : goal.invariant-loop-number
invariant-loop-number l = (k : ℕ) → k < l.number → IsShownAmong l.vectors l.shown k
