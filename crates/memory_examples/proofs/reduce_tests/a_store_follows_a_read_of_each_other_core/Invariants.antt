use Rattle.std.proofs.Common.{◌≡◌}
use Rattle.rtr_types.specs.declared.TheConstants.{CORES_MAX}
use Rattle.memory_examples.proofs.reduce_tests.a_store_follows_a_read_of_each_other_core.Given as goal

abbrev pub invariant-loop-core : goal.invariant-loop-core
invariant-loop-core g l = l.reducer.state.cores ≡ CORES_MAX
