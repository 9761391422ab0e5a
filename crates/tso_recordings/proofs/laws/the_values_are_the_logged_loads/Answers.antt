use Rattle.tso_recordings.proofs.LoggedLoads.{logged_law}
use Rattle.tso_recordings.proofs.laws.the_values_are_the_logged_loads.Goals as goal

pub returns : goal.returns
returns c = logged_law
