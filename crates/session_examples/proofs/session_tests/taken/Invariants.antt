use Rattle.std.proofs.Common.{◌≤◌}
use Rattle.session_examples.proofs.session_tests.taken.Given as goal

-- no more were taken than were set
abbrev pub invariant-loop-at : goal.invariant-loop-at
invariant-loop-at l = l.all ≤ l.at-counter
