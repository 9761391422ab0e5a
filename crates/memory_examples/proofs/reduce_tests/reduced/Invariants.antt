use Rattle.std.proofs.Common.{◌≡◌}
use Rattle.memory_examples.proofs.reduce_tests.reduced.Given as goal

abbrev pub invariant-loop-access : goal.invariant-loop-access
invariant-loop-access g l = l.reducer.state.cores ≡ 3

abbrev pub invariant-loop-edge : goal.invariant-loop-edge
invariant-loop-edge g l = l.reducer-inside.cores ≡ 3
