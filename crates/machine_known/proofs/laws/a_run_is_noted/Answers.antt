use Rattle.machine_known.proofs.NotedRuns.{knows_start, knows_step}
use Rattle.machine_known.proofs.laws.a_run_is_noted.Goals as goal

pub returns-clause-start : goal.returns-clause-start
returns-clause-start g c = knows_start g.R.Rider.riding

pub returns-clause-step : goal.returns-clause-step
returns-clause-step g c = knows_step g.R.Rider.riding
