use Rattle.std.proofs.Common.{◌≡◌}
use Rattle.std.specs.Prelude.{replicate}
use Rattle.rv_core.specs.States.{starting}
use Rattle.hunt_runs.proofs.jumps.Jumps.new.Given as goal

abbrev pub invariant-loop-core : goal.invariant-loop-core
invariant-loop-core l = l.last.items ≡ replicate l._core (starting 0 0)
