use Rattle.std.proofs.Common.{◌≡◌, length}
use Rattle.machine_examples.proofs.machine_tests.written.Given as goal

abbrev pub invariant-loop-choice : goal.invariant-loop-choice
invariant-loop-choice l = (l.machine.state.image.words ≡ 16) × (length l.machine.state.cores ≡ 2)
