use Rattle.machine_known.proofs.KnownRuns.{run_earlier_law}
use Rattle.machine_known.proofs.laws.what_is_known_retired_earlier.Goals as goal

pub returns : goal.returns
returns c = run_earlier_law
