use Rattle.msi_protocol.specs.Promises.{NoneForgotten}
use Rattle.msi_protocol.proofs.Keeps.{always}
use Rattle.msi_protocol.proofs.Quiet.{none_forgotten}
use Rattle.msi_protocol.proofs.laws.no_core_is_forgotten.Goals as goal

pub returns : goal.returns
returns c = always NoneForgotten none_forgotten
