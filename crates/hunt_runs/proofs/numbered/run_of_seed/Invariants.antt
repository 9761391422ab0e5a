use Rattle.std.proofs.Common.{◌≡◌, ℕ, [], length}
use Rattle.schedule_pick.specs.Choices.{choices_of}
use Rattle.hunt_runs.proofs.numbered.run_of_seed.Given as goal

-- it stands at some moment of the run under the seed
abbrev pub invariant-loop-machine : goal.invariant-loop-machine
invariant-loop-machine g l = record {
  stands : (t : ℕ)
      × g.M.HuntedMachine.stands l.machine (g.M.SteppedMachine.image l.fn.machine) l.fn.params
      (choices_of [] l.fn.seed) t l.schedule;
  cores : length (g.M.SteppedMachine.cores l.machine) ≡ l.fn.params.cores;
  image : g.M.SteppedMachine.image l.machine ≡ (g.M.SteppedMachine.image l.fn.machine);
}

abbrev pub decreases-loop-machine : goal.decreases-loop-machine
decreases-loop-machine g l = g.M.SteppedMachine.left l.machine
