use Rattle.std.proofs.Common.{◌≡◌}
use Rattle.machine_examples.proofs.tso_run_tests.every_core_that_there_may_be_adds_to_one_word.Given as goal

abbrev pub invariant-loop-choice : goal.invariant-loop-choice
invariant-loop-choice g l = l.machine.state.image.words ≡ 96
