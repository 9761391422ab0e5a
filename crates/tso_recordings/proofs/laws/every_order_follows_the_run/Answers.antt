use Rattle.tso_recordings.proofs.Schedules.{replayed}
use Rattle.tso_recordings.proofs.laws.every_order_follows_the_run.Goals as goal

pub returns : goal.returns
returns c = replayed
