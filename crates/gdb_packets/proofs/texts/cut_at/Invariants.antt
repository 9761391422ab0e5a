use Rattle.std.proofs.Common.{◌≡◌, take, drop}
use Rattle.gdb_packets.specs.Texts.{cut_at}
use Rattle.gdb_packets.proofs.TextLemmas.{with_front}
use Rattle.gdb_packets.proofs.texts.cut_at.Given as goal

-- no such byte is among those so far
abbrev pub invariant-loop-i : goal.invariant-loop-i
invariant-loop-i l = cut_at l.byte l.text ≡ with_front (take l.i l.text) (cut_at l.byte (drop l.i l.text))
