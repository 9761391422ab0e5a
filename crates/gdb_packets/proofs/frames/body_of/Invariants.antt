use Rattle.std.proofs.Common.{◌≡◌, take}
use Rattle.std.specs.List.{flat_map}
use Rattle.gdb_packets.specs.Frames.{escaped}
use Rattle.gdb_packets.proofs.frames.body_of.Given as goal

-- the bytes so far are spelled
abbrev pub invariant-loop-b : goal.invariant-loop-b
invariant-loop-b l = l.body ≡ flat_map escaped (take l.b-index l.payload)
