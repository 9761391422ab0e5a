use Rattle.machine_known.proofs.KnownRuns.{known_start, known_step}
use Rattle.machine_known.proofs.laws.every_step_counts_what_is_known.Goals as goal

pub returns-clause-start : goal.returns-clause-start
returns-clause-start g c = known_start g.R.Rider.riding

pub returns-clause-step : goal.returns-clause-step
returns-clause-step g c = known_step g.R.Rider.riding
