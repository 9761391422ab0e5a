use Rattle.std.proofs.Common.{◌≡◌, take}
use Rattle.run_steps.proofs.ends.cores_of.Given as goal

-- the cores so far
abbrev pub invariant-loop-core : goal.invariant-loop-core
invariant-loop-core g l = l.list ≡ take l.core (g.M.SteppedMachine.cores l.machine)
