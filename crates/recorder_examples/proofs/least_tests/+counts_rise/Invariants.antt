use Rattle.std.proofs.Common.{length}
use Rattle.recorder_examples.proofs.least_tests.+counts_rise.Given as goal

abbrev pub decreases-counts_rise : goal.decreases-counts_rise
decreases-counts_rise l = length l.list.now
