use Rattle.run_replays.proofs.BothLogs.{run_regulated}
use Rattle.run_replays.proofs.laws.the_regulated_log_covers_the_run.Goals as goal

pub returns : goal.returns
returns c = run_regulated
