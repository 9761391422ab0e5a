use Rattle.run_replays.proofs.BothLogs.{both_replay}
use Rattle.run_replays.proofs.laws.both_logs_replay_the_run.Goals as goal

pub returns : goal.returns
returns c = both_replay
