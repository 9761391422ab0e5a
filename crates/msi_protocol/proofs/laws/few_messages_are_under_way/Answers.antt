use Rattle.msi_protocol.specs.Promises.{FewUnderWay}
use Rattle.msi_protocol.proofs.Keeps.{always}
use Rattle.msi_protocol.proofs.Quiet.{few_under_way}
use Rattle.msi_protocol.proofs.laws.few_messages_are_under_way.Goals as goal

pub returns : goal.returns
returns c = always FewUnderWay few_under_way
