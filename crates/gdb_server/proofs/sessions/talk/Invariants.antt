use Rattle.std.proofs.Common.{◌≡◌}
use Rattle.gdb_packets.specs.Lines.{Shows, Wire, payload_in}
use Rattle.gdb_server.proofs.SessionLemmas.{Sits}
use Rattle.gdb_server.proofs.sessions.talk.Given as goal

abbrev pub invariant-loop-count : goal.invariant-loop-count
invariant-loop-count g l = record {
  sits : (wire : Wire) → Shows wire l.fn.line
      → Sits g.P.Partner.answers g.P.Partner.interrupts g.C.Conversation.passed g.C.Conversation.goes_on wire
      l.fn.partner (payload_in l.fn.line) l.partner l.line l.next l.fn.conversation l.conversation l.count;
  read : g.C.Conversation.read_faults l.conversation ≡ g.C.Conversation.read_faults l.fn.conversation;
  written : g.C.Conversation.write_faults l.conversation ≡ g.C.Conversation.write_faults l.fn.conversation;
}
