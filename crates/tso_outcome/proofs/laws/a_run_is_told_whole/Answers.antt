use Rattle.tso_outcome.proofs.RunPlaces.{told_loads_law}
use Rattle.tso_outcome.proofs.laws.a_run_is_told_whole.Goals as goal

pub returns : goal.returns
returns c = told_loads_law
