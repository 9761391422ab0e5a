use Rattle.std.proofs.Common.{refl}
use Rattle.gdb_packets.specs.Frames.{unescaped}
use Rattle.gdb_packets.proofs.ReaderLemmas.{holds_brace, holds_changed, holds_plain}
use Rattle.gdb_packets.proofs.reader.Reader.add.Goals as goal

pub returns-then-self-clause-holds : goal.returns-then-self-clause-holds
returns-then-self-clause-holds c = λ body h.
    holds_changed body c.args.byte c.args.self.now c.put.new.self h c.if-self.true c.put.ensures.sum c.put.ensures.cut
    (c.put.ensures.payload (unescaped body) (record { front = h.payload.front; long = h.payload.long }))

pub returns-then-byte-eq125-clause-holds : goal.returns-then-byte-eq125-clause-holds
returns-then-byte-eq125-clause-holds c = λ body h.
    holds_brace body c.args.byte c.args.self.now _ h c.if-self.false c.if-byte-eq125.true refl refl
    (record { front = h.payload.front; long = h.payload.long })

pub returns-else-byte-eq125-clause-holds : goal.returns-else-byte-eq125-clause-holds
returns-else-byte-eq125-clause-holds c = λ body h.
    holds_plain body c.args.byte c.args.self.now c.put-else-byte-eq125.new.self h c.if-self.false c.if-byte-eq125.false
    c.put-else-byte-eq125.ensures.sum c.put-else-byte-eq125.ensures.cut
    (c.put-else-byte-eq125.ensures.payload (unescaped body) (record { front = h.payload.front; long = h.payload.long }))
