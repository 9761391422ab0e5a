use Rattle.std.proofs.Common.{arith, refl}
use Rattle.gdb_packets.proofs.ReaderLemmas.{keeps_full, keeps_room}
use Rattle.gdb_packets.proofs.reader.Reader.put.Goals as goal

pub returns-then-len-lt-PAYLOAD_MAX-clause-payload : goal.returns-then-len-lt-PAYLOAD_MAX-clause-payload
returns-then-len-lt-PAYLOAD_MAX-clause-payload c = λ xs h.
    keeps_room xs c.args.byte c.args.self.now _ h (omega arith) c.push_reserved.ensures.items refl

pub returns-else-len-lt-PAYLOAD_MAX-clause-payload : goal.returns-else-len-lt-PAYLOAD_MAX-clause-payload
returns-else-len-lt-PAYLOAD_MAX-clause-payload c = λ xs h.
    keeps_full xs c.args.byte c.args.self.now _ h (omega arith) refl refl
