use Rattle.hunt_runs.proofs.PickedRuns.{numbered_make}
use Rattle.hunt_runs.proofs.picked.picks_make_the_run.Goals as goal

pub returns : goal.returns
returns c = numbered_make
