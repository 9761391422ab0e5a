use Rattle.std.proofs.Common.{◌≤◌}
use Rattle.recorder_examples.proofs.dense_tests.is_dense.Given as goal

abbrev pub invariant-loop-before : goal.invariant-loop-before
invariant-loop-before l = l.changes ≤ l.before
