use Rattle.std.proofs.Common.{◌≡◌, map, take}
use Rattle.hunt_cli.specs.OwnTurns.{act_of}
use Rattle.hunt_cli.proofs.acts.acts_in.Given as goal

abbrev pub invariant-loop-access : goal.invariant-loop-access
invariant-loop-access l = l.acts ≡ map (act_of l.buffers) (take l.access-index l.accesses)
