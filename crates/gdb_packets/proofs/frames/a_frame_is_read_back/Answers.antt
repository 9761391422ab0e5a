use Rattle.gdb_packets.proofs.ReadBack.{read_back}
use Rattle.gdb_packets.proofs.frames.a_frame_is_read_back.Goals as goal

pub returns : goal.returns
returns c = read_back
