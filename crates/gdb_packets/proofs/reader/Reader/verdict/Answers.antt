use Rattle.std.proofs.Common.{sym}
use Rattle.gdb_packets.proofs.ReaderLemmas.{taken}
use Rattle.gdb_packets.proofs.reader.Reader.verdict.Goals as goal

pub returns-then-not-self-2 : goal.returns-then-not-self-2
returns-then-not-self-2 c = λ body h.
    taken body c.args.high c.args.low c.args.self.now h (sym c.if-are_digits_of.ensures) c.if-not-self.true
    c.if-not-self-2.true
