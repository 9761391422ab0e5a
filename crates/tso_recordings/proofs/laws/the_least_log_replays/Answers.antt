use Rattle.tso_recordings.proofs.Replays.{least_replays}
use Rattle.tso_recordings.proofs.laws.the_least_log_replays.Goals as goal

pub returns : goal.returns
returns c = least_replays
