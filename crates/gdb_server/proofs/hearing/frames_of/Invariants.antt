use Rattle.std.proofs.Common.{◌≡◌, take}
use Rattle.gdb_packets.specs.Lines.{Shows, Wire}
use Rattle.gdb_server.specs.Wires.{frames, last_frame}
use Rattle.gdb_server.proofs.hearing.frames_of.Given as goal

abbrev pub invariant-loop-payload : goal.invariant-loop-payload
invariant-loop-payload l = record {
  said : l.said.items ≡ frames (take l.payload-index l.payloads);
  shows : (wire : Wire) → Shows wire l.fn.line
      → Shows (record wire { last = last_frame wire.last (take l.payload-index l.payloads) }) l.line;
}
