use Rattle.run_outcome.proofs.EveryRun.{every_run}
use Rattle.run_outcome.proofs.laws.the_machine_over_every_run.Goals as goal

pub returns : goal.returns
returns c = every_run
