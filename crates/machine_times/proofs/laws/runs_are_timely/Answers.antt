use Rattle.machine_times.proofs.TimedRuns.{timed_run_law}
use Rattle.machine_times.proofs.laws.runs_are_timely.Goals as goal

pub returns : goal.returns
returns g c = timed_run_law g.K.Carry.carrying
