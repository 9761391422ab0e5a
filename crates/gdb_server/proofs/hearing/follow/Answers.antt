use Rattle.gdb_packets.specs.Frames.{Nothing, Broken, Again}
use Rattle.gdb_packets.specs.Lines.{payload_in}
use Rattle.gdb_server.proofs.SessionLemmas.{follows_answer, follows_interrupt, follows_quiet}
use Rattle.gdb_server.proofs.hearing.follow.Goals as goal

pub returns-in-Packet-clause-followed : goal.returns-in-Packet-clause-followed
returns-in-Packet-clause-followed g c = λ wire s.
    rw c.in-Packet.is
    (follows_answer g.P.Partner.answers g.P.Partner.interrupts g.C.Conversation.passed g.C.Conversation.goes_on
    wire c.args.partner.now (payload_in c.args.line.now)
    c.answer.new.partner c.answer.new.line c.args.conversation.now c.answer.new.conversation
    c.answer.result (c.answer.ensures.said wire s))

pub returns-in-Interrupt-clause-followed : goal.returns-in-Interrupt-clause-followed
returns-in-Interrupt-clause-followed g c = λ wire s.
    rw c.in-Interrupt.is
    (follows_interrupt g.P.Partner.answers g.P.Partner.interrupts g.C.Conversation.passed g.C.Conversation.goes_on
    wire c.args.partner.now c.interrupt.new.self
    c.args.line.now c.args.conversation.now (g.C.Conversation.nothing c.args.conversation.now) c.interrupt.ensures s)

pub returns-in-Nothing-clause-followed : goal.returns-in-Nothing-clause-followed
returns-in-Nothing-clause-followed g c = λ wire s.
    rw c.in-Nothing.is
    (follows_quiet g.P.Partner.answers g.P.Partner.interrupts g.C.Conversation.passed g.C.Conversation.goes_on
    wire c.args.partner.now Nothing c.args.line.now
    c.args.conversation.now (g.C.Conversation.nothing c.args.conversation.now) tt s)

pub returns-in-Broken-clause-followed : goal.returns-in-Broken-clause-followed
returns-in-Broken-clause-followed g c = λ wire s.
    rw c.in-Broken.is
    (follows_quiet g.P.Partner.answers g.P.Partner.interrupts g.C.Conversation.passed g.C.Conversation.goes_on
    wire c.args.partner.now Broken c.args.line.now
    c.args.conversation.now (g.C.Conversation.nothing c.args.conversation.now) tt s)

pub returns-in-Again-clause-followed : goal.returns-in-Again-clause-followed
returns-in-Again-clause-followed g c = λ wire s.
    rw c.in-Again.is
    (follows_quiet g.P.Partner.answers g.P.Partner.interrupts g.C.Conversation.passed g.C.Conversation.goes_on
    wire c.args.partner.now Again c.args.line.now
    c.args.conversation.now (g.C.Conversation.nothing c.args.conversation.now) tt s)

pub returns-in-Packet-clause-broken : goal.returns-in-Packet-clause-broken
returns-in-Packet-clause-broken g c = λ wire. rw c.in-Packet.is (c.answer.ensures.broken wire)
