use Rattle.msi_protocol.specs.Promises.{QuietAgrees}
use Rattle.msi_protocol.proofs.Keeps.{always}
use Rattle.msi_protocol.proofs.Quiet.{quiet_agrees}
use Rattle.msi_protocol.proofs.laws.a_quiet_block_agrees.Goals as goal

pub returns : goal.returns
returns c = always QuietAgrees quiet_agrees
