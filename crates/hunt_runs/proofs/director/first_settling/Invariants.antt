use Rattle.std.proofs.Common.{◌≡◌, ◌-◌}
use Rattle.std.specs.List.{range_with_len}
use Rattle.hunt_runs.specs.Seen.{first_settling}
use Rattle.hunt_runs.proofs.director.first_settling.Given as goal

-- none before this core is to be settled further
abbrev pub invariant-loop-core : goal.invariant-loop-core
invariant-loop-core g l =
    first_settling (g.M.HuntedMachine.seen l.machine) (range_with_len l.core (l.enabled.cores - l.core))
    ≡ first_settling (g.M.HuntedMachine.seen l.machine) (range_with_len 0 l.enabled.cores)
