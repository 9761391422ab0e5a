use Rattle.std.proofs.Common.{◌≡◌, ◌≤◌, ℕ, length}
use Rattle.hunt_runs.specs.Courses.{EachEnabled, StandsAfter, course_of, gone_from, run_by}
use Rattle.hunt_runs.specs.Directing.{IsOf}
use Rattle.hunt_runs.specs.Ways.{gone_in}
use Rattle.hunt_runs.proofs.led.lead.Given as goal

-- it stands after the choices that it noted, and goes on to the end of the run that was begun
abbrev pub invariant-loop-run : goal.invariant-loop-run
invariant-loop-run g l =
    let course = course_of g.M.HuntedMachine.seen_at g.M.HuntedMachine.changes_at
    (g.M.SteppedMachine.image l.fn.machine) l.fn.params in
    record {
      stands : StandsAfter g.M.HuntedMachine.stands (g.M.SteppedMachine.image l.fn.machine) l.fn.params l.run.machine
          l.run.choices;
      gone : (most : ℕ) × (g.M.SteppedMachine.left l.run.machine ≤ most)
          × (gone_from course g.P.Policy.policy most (gone_in l.run)
          ≡ run_by course g.P.Policy.policy l.fn.policy l.fn.params.cores (g.M.HuntedMachine.most_steps l.fn.params));
      each : EachEnabled course l.run.choices;
      of : IsOf l.run.director (length (g.M.SteppedMachine.cores l.run.machine));
      cores : length (g.M.SteppedMachine.cores l.run.machine) ≡ l.fn.params.cores;
      image : g.M.SteppedMachine.image l.run.machine ≡ (g.M.SteppedMachine.image l.fn.machine);
    }

abbrev pub decreases-loop-run : goal.decreases-loop-run
decreases-loop-run g l = g.M.SteppedMachine.left l.run.machine
