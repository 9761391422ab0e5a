-- Packet by packet: what was said and heard so far is a session that stands at this point of the wire; each end of the
-- loop is one of the session's ends.
use Rattle.std.proofs.Common.{◌∙◌, sym}
use Rattle.gdb_server.specs.declared.hearing.TalkFault.TheVariants as faults
use Rattle.gdb_server.proofs.SessionLemmas.{no_fault, sits_first, sits_followed, talked_no_more, talked_out}
use Rattle.gdb_server.proofs.SessionLemmas.{talked_over}
use Rattle.gdb_packets.specs.Lines.{payload_in}
use Rattle.gdb_server.specs.Wires.{behind_byte}
use Rattle.gdb_server.proofs.SessionFronts.{on_err, talked_to_answer, talked_to_byte, talked_to_event}
use Rattle.gdb_server.proofs.sessions.talk.Goals as goal

pub loop-count-init : goal.loop-count-init
loop-count-init g c = record {
  sits = λ wire s.
      sits_first g.P.Partner.answers g.P.Partner.interrupts g.C.Conversation.passed g.C.Conversation.goes_on wire
      c.args.partner.now (payload_in c.args.line.now) c.answer.new.partner c.answer.new.line c.in_ok-next.next
      c.args.conversation.now c.answer.new.conversation (c.in_ok-next.ensures.said wire s);
  read = c.in_ok-next.ensures.still_read;
  written = no_fault faults.WriteFault c.in_ok-next.next _ _ c.in_ok-next.ensures.no_write_fault;
}

pub loop-count-preserved : goal.loop-count-preserved
loop-count-preserved g c =
    let on = sym c.is_last.ensures ∙ c.if-is_last.false in
    record {
      sits = λ wire s.
          let t = c.loop-count.invariant.sits wire s in
          let hears = rw c.in-Some.is at (c.in_ok-hear.ensures.heard t.to.wire t.shows) in
          sits_followed g.P.Partner.answers g.P.Partner.interrupts g.C.Conversation.passed g.C.Conversation.goes_on
          wire c.args.partner.now (payload_in c.args.line.now) c.loop-count.partner c.follow.new.partner
          c.loop-count.line c.hear.new.line c.follow.new.line c.loop-count.next c.in_ok-next-in-Some.next
          c.in-Some.told c.args.conversation.now c.loop-count.conversation c.hear.new.conversation
          c.follow.new.conversation c.loop-count.count t on hears
          (c.in_ok-next-in-Some.ensures.followed (behind_byte t.to.wire hears.byte) hears.shows);
      read = c.in_ok-next-in-Some.ensures.still_read
          ∙ no_fault faults.ReadFault c.in_ok-hear.field-0 _ _ c.in_ok-hear.ensures.no_read_fault
          ∙ c.loop-count.invariant.read;
      written = no_fault faults.WriteFault c.in_ok-next-in-Some.next _ _ c.in_ok-next-in-Some.ensures.no_write_fault
          ∙ no_fault faults.WriteFault c.in_ok-hear.field-0 _ _ c.in_ok-hear.ensures.no_write_fault
          ∙ c.loop-count.invariant.written;
    }

pub returns-then-is_last-clause-talked : goal.returns-then-is_last-clause-talked
returns-then-is_last-clause-talked g c = λ wire s.
    talked_over g.P.Partner.answers g.P.Partner.interrupts g.C.Conversation.passed g.C.Conversation.goes_on
    (g.C.Conversation.is_over c.loop-count.conversation) wire c.args.partner.now (payload_in c.args.line.now)
    c.loop-count.partner c.loop-count.line c.loop-count.next c.args.conversation.now c.loop-count.conversation
    c.loop-count.count (c.loop-count.invariant.sits wire s) (sym c.is_last.ensures ∙ c.if-is_last.true)

pub returns-in-None-clause-talked : goal.returns-in-None-clause-talked
returns-in-None-clause-talked g c = λ wire s.
    let t = c.loop-count.invariant.sits wire s in
    let hears = rw c.in-None.is at (c.in_ok-hear.ensures.heard t.to.wire t.shows) in
    talked_out g.P.Partner.answers g.P.Partner.interrupts g.C.Conversation.passed g.C.Conversation.goes_on
    (g.C.Conversation.is_over c.hear.new.conversation) wire c.args.partner.now (payload_in c.args.line.now)
    c.loop-count.partner c.loop-count.line c.hear.new.line c.loop-count.next c.args.conversation.now
    c.loop-count.conversation c.hear.new.conversation c.loop-count.count t hears.0 hears.1

pub returns-clause-talked : goal.returns-clause-talked
returns-clause-talked g c = λ wire s.
    talked_no_more g.P.Partner.answers g.P.Partner.interrupts g.C.Conversation.passed g.C.Conversation.goes_on
    (g.C.Conversation.is_over c.loop-count.conversation) wire c.args.partner.now (payload_in c.args.line.now)
    c.loop-count.partner c.loop-count.line c.loop-count.next c.args.conversation.now c.loop-count.conversation
    c.loop-count.count (c.loop-count.invariant.sits wire s) c.loop-count-test.false

pub returns-in_err-next-clause-broken : goal.returns-in_err-next-clause-broken
returns-in_err-next-clause-broken g c = λ wire s.
    on_err c.from_residual.result _
    (talked_to_answer g.P.Partner.answers g.P.Partner.interrupts g.C.Conversation.passed wire c.args.partner.now
    (payload_in c.args.line.now) c.args.conversation.now c.answer.new.conversation
    (c.in_err-next.ensures.broken wire))

pub returns-in_err-hear-clause-broken : goal.returns-in_err-hear-clause-broken
returns-in_err-hear-clause-broken g c = λ wire s.
    let t = c.loop-count.invariant.sits wire s in
    let on = sym c.is_last.ensures ∙ c.if-is_last.false in
    on_err c.from_residual-in_err-hear.result _
    (talked_to_byte g.C.Conversation.passed g.C.Conversation.goes_on g.P.Partner.answers g.P.Partner.interrupts wire
    c.args.partner.now (payload_in c.args.line.now) c.loop-count.partner c.loop-count.line c.loop-count.next
    c.args.conversation.now c.loop-count.conversation c.loop-count.count t on c.hear.new.conversation
    (c.in_err-hear.ensures.broken t.to.wire t.shows))

pub returns-in_err-next-in-Some-clause-broken : goal.returns-in_err-next-in-Some-clause-broken
returns-in_err-next-in-Some-clause-broken g c = λ wire s.
    let t = c.loop-count.invariant.sits wire s in
    let on = sym c.is_last.ensures ∙ c.if-is_last.false in
    let hears = rw c.in-Some.is at (c.in_ok-hear.ensures.heard t.to.wire t.shows) in
    on_err c.from_residual-in_err-next-in-Some.result _
    (talked_to_event g.C.Conversation.passed g.C.Conversation.goes_on g.P.Partner.answers g.P.Partner.interrupts wire
    c.args.partner.now (payload_in c.args.line.now) c.loop-count.partner c.loop-count.line c.loop-count.next
    c.args.conversation.now c.loop-count.conversation c.loop-count.count t on c.in-Some.told c.hear.new.line
    c.hear.new.conversation c.follow.new.conversation hears
    (c.in_err-next-in-Some.ensures.broken (behind_byte t.to.wire hears.byte)))
