use Rattle.std.proofs.Common.{◌≡◌, ◌++◌}
use Rattle.std.specs.Prelude.{map}
use Rattle.hunt_runs.specs.Counted.{buffer_actors, unpicked}
use Rattle.hunt_runs.proofs.counted.put_buffers.Given as goal

abbrev pub invariant-loop-core : goal.invariant-loop-core
invariant-loop-core l = l.picks.items ≡ l.fn.picks.items ++ map unpicked (buffer_actors l.core)
