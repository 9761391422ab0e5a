use Rattle.gdb_packets.proofs.ReadBack.{pieces}
use Rattle.gdb_packets.proofs.frames.pieces_make_no_difference.Goals as goal

pub returns : goal.returns
returns c = pieces
