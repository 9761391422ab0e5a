use Rattle.run_replays.proofs.RunLaws.{run_is_play}
use Rattle.run_replays.proofs.laws.a_run_is_a_play.Goals as goal

pub returns : goal.returns
returns c = run_is_play
