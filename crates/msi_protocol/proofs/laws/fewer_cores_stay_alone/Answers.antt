use Rattle.msi_protocol.proofs.Quiet.{only_below_in_runs}
use Rattle.msi_protocol.proofs.laws.fewer_cores_stay_alone.Goals as goal

pub returns : goal.returns
returns c = only_below_in_runs
