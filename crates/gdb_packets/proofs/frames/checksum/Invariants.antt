use Rattle.std.proofs.Common.{◌≡◌, take}
use Rattle.gdb_packets.specs.Frames.{checksum}
use Rattle.gdb_packets.proofs.frames.checksum.Given as goal

-- the bytes so far are added up
abbrev pub invariant-loop-b : goal.invariant-loop-b
invariant-loop-b l = l.sum ≡ checksum (take l.b-index l.body)
