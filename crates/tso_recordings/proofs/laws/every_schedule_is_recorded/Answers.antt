use Rattle.tso_recordings.proofs.Schedules.{held}
use Rattle.tso_recordings.proofs.laws.every_schedule_is_recorded.Goals as goal

pub returns : goal.returns
returns c = held
