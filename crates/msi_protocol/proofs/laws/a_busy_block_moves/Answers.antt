use Rattle.msi_protocol.specs.Promises.{BusyMoves}
use Rattle.msi_protocol.proofs.Keeps.{always, busy_moves}
use Rattle.msi_protocol.proofs.laws.a_busy_block_moves.Goals as goal

pub returns : goal.returns
returns c = always BusyMoves busy_moves
