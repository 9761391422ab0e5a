use Rattle.msi_protocol.specs.Promises.{HasRows}
use Rattle.msi_protocol.proofs.Keeps.{always, rows_hold}
use Rattle.msi_protocol.proofs.laws.each_message_has_a_row.Goals as goal

pub returns : goal.returns
returns c = always HasRows rows_hold
