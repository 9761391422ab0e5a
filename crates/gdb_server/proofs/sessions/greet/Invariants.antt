use Rattle.std.proofs.Common.{◌≡◌}
use Rattle.gdb_packets.specs.Lines.{Shows, Wire}
use Rattle.gdb_server.proofs.SessionLemmas.{Waits}
use Rattle.gdb_server.proofs.sessions.greet.Given as goal

abbrev pub invariant-loop-count : goal.invariant-loop-count
invariant-loop-count g l = record {
  waits : (wire : Wire) → Shows wire l.fn.line
      → Waits g.C.Conversation.passed g.C.Conversation.goes_on wire l.line l.fn.conversation l.conversation l.count;
  read : g.C.Conversation.read_faults l.conversation ≡ g.C.Conversation.read_faults l.fn.conversation;
  written : g.C.Conversation.write_faults l.conversation ≡ g.C.Conversation.write_faults l.fn.conversation;
}
