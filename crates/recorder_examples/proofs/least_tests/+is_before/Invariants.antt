use Rattle.std.proofs.Common.{length}
use Rattle.recorder_examples.proofs.least_tests.+is_before.Given as goal

abbrev pub decreases-is_before : goal.decreases-is_before
decreases-is_before l = length l.others.now
