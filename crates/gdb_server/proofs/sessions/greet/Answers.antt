use Rattle.std.proofs.Common.{◌∙◌, refl, sym}
use Rattle.gdb_server.specs.declared.hearing.TalkFault.TheVariants as faults
use Rattle.gdb_server.proofs.SessionLemmas.{greets_no_more, greets_nobody, greets_told, no_fault, waits_first}
use Rattle.gdb_server.proofs.SessionLemmas.{waits_told}
use Rattle.gdb_server.proofs.SessionFronts.{greets_in_part, on_err}
use Rattle.gdb_server.proofs.sessions.greet.Goals as goal

pub loop-count-init : goal.loop-count-init
loop-count-init g c = record {
  waits = λ wire s.
      waits_first g.C.Conversation.passed g.C.Conversation.goes_on wire c.args.line.now c.args.conversation.now
      (g.C.Conversation.nothing c.args.conversation.now) s;
  read = refl;
  written = refl;
}

pub loop-count-preserved : goal.loop-count-preserved
loop-count-preserved g c =
    let quiet = sym c.is_packet.ensures ∙ c.if-is_packet.false in
    record {
      waits = λ wire s.
          let w = c.loop-count.invariant.waits wire s in
          let hears = rw c.in-Some.is at (c.in_ok-hear.ensures.heard w.behind w.shows) in
          waits_told g.C.Conversation.passed g.C.Conversation.goes_on wire c.loop-count.line c.hear.new.line
          c.in-Some.told c.args.conversation.now c.loop-count.conversation c.hear.new.conversation c.loop-count.count w
          quiet hears;
      read = no_fault faults.ReadFault c.in_ok-hear.field-0 _ _ c.in_ok-hear.ensures.no_read_fault
          ∙ c.loop-count.invariant.read;
      written = no_fault faults.WriteFault c.in_ok-hear.field-0 _ _ c.in_ok-hear.ensures.no_write_fault
          ∙ c.loop-count.invariant.written;
    }

pub returns-then-is_packet-clause-greeted : goal.returns-then-is_packet-clause-greeted
returns-then-is_packet-clause-greeted g c = λ wire s.
    let w = c.loop-count.invariant.waits wire s in
    let hears = rw c.in-Some.is at (c.in_ok-hear.ensures.heard w.behind w.shows) in
    greets_told g.C.Conversation.passed g.C.Conversation.goes_on wire c.loop-count.line c.hear.new.line c.in-Some.told
    c.args.conversation.now c.loop-count.conversation c.hear.new.conversation c.loop-count.count w
    (sym c.is_packet.ensures ∙ c.if-is_packet.true) hears

pub returns-in-None-clause-greeted : goal.returns-in-None-clause-greeted
returns-in-None-clause-greeted g c = λ wire s.
    let w = c.loop-count.invariant.waits wire s in
    let hears = rw c.in-None.is at (c.in_ok-hear.ensures.heard w.behind w.shows) in
    greets_nobody g.C.Conversation.passed g.C.Conversation.goes_on (g.C.Conversation.is_over c.hear.new.conversation)
    wire c.loop-count.line c.hear.new.line c.args.conversation.now c.loop-count.conversation c.hear.new.conversation
    c.loop-count.count w hears.0 hears.1

pub returns-clause-greeted : goal.returns-clause-greeted
returns-clause-greeted g c = λ wire s.
    greets_no_more g.C.Conversation.passed g.C.Conversation.goes_on
    (g.C.Conversation.is_over c.loop-count.conversation) wire c.loop-count.line c.args.conversation.now
    c.loop-count.conversation c.loop-count.count (c.loop-count.invariant.waits wire s) c.loop-count-test.false

pub returns-in_err-hear-clause-broken : goal.returns-in_err-hear-clause-broken
returns-in_err-hear-clause-broken g c = λ wire s.
    let w = c.loop-count.invariant.waits wire s in
    on_err c.from_residual.result _
    (greets_in_part g.C.Conversation.passed g.C.Conversation.goes_on wire c.loop-count.line c.args.conversation.now
    c.loop-count.conversation c.hear.new.conversation c.loop-count.count w
    (c.in_err-hear.ensures.broken w.behind w.shows))
