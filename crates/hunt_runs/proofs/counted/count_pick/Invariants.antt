use Rattle.std.proofs.Common.{◌≡◌, ◌++◌, drop, take}
use Rattle.std.specs.Prelude.{map}
use Rattle.hunt_runs.specs.Counted.{picked_once}
use Rattle.hunt_runs.proofs.counted.count_pick.Given as goal

abbrev pub invariant-loop-place : goal.invariant-loop-place
invariant-loop-place l = l.picks ≡ map (picked_once l.actor) (take l.place l.fn.picks) ++ drop l.place l.fn.picks
