use Rattle.std.proofs.Common.{◌≡◌}
use Rattle.gdb_places.specs.Memory.{bytes_at}
use Rattle.gdb_places.proofs.memory.bytes_at.Given as goal

-- the bytes so far
abbrev pub invariant-loop-k : goal.invariant-loop-k
invariant-loop-k l = l.bytes ≡ bytes_at l.place l.at l.k
