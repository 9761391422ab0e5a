use Rattle.std.proofs.Common.{◌≡◌, length}
use Rattle.machine_examples.proofs.tso_run_tests.made.Given as goal

abbrev pub invariant-loop-number : goal.invariant-loop-number
invariant-loop-number l = (l.machine.state.image.words ≡ 96) × (length l.machine.state.cores ≡ 2)
