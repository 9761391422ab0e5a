use Rattle.recorder_examples.specs.Dense.{AreCounted}
use Rattle.recorder_examples.proofs.dense_tests.note_all.Given as goal

abbrev pub invariant-loop-at : goal.invariant-loop-at
invariant-loop-at l = AreCounted l.history.notes l.counts
