use Rattle.msi_protocol.specs.Promises.{OneWriter}
use Rattle.msi_protocol.proofs.Keeps.{always, one_writer_holds}
use Rattle.msi_protocol.proofs.laws.one_writer.Goals as goal

pub returns : goal.returns
returns c = always OneWriter one_writer_holds
