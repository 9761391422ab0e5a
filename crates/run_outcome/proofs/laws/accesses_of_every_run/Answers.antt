use Rattle.run_outcome.proofs.RunAccesses.{accesses_law}
use Rattle.run_outcome.proofs.laws.accesses_of_every_run.Goals as goal

pub returns : goal.returns
returns c = accesses_law
