use Rattle.run_replays.proofs.RunLaws.{of_run}
use Rattle.run_replays.proofs.laws.the_recording_is_of_the_run.Goals as goal

pub returns : goal.returns
returns c = of_run
