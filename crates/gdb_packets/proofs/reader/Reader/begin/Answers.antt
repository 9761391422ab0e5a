use Rattle.std.proofs.Common.{refl}
use Rattle.gdb_packets.proofs.ReaderLemmas.{holds_nothing}
use Rattle.gdb_packets.proofs.reader.Reader.begin.Goals as goal

pub returns : goal.returns
returns c = (refl, holds_nothing _ refl refl refl c.clear.ensures.items)
