use Rattle.std.proofs.Common.{◌≡◌, take}
use Rattle.gdb_places.specs.Registers.{spelled}
use Rattle.gdb_places.proofs.registers.spelled.Given as goal

-- the bytes so far
abbrev pub invariant-loop-word : goal.invariant-loop-word
invariant-loop-word l = l.bytes.items ≡ spelled (take l.word-index l.words)
