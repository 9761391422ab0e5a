use Rattle.machine_times.specs.TimedSteps.{times_parts}
use Rattle.machine_times.proofs.RiderLaws.{times_absorb, times_fresh}
use Rattle.machine_times.proofs.NewMachine.{machine_start}
use Rattle.machine_times.proofs.MoveTimes.{timed_step, finds_exact}
use Rattle.machine_times.proofs.laws.timed_steps.Goals as goal

pub returns : goal.returns
returns g c =
    record {
      starts = machine_start times_parts g.K.Carry.carrying times_fresh;
      stands = timed_step times_parts g.K.Carry.carrying times_absorb;
      finds = finds_exact times_parts g.K.Carry.carrying times_absorb;
    }
