use Rattle.gdb_packets.specs.Lines.{payload_in}
use Rattle.gdb_cli.proofs.SessionLemmas.{conversed, conversed_in_part}
use Rattle.gdb_cli.proofs.sessions.converse.Goals as goal

pub returns-clause-conversed : goal.returns-clause-conversed
returns-clause-conversed g c = λ wire s.
    conversed c.talk.result c.args.audited.now c.in_ok-session.session c.talk.new.partner wire
    (payload_in c.args.line.now)
    (λ words. g.C.Conversation.passed c.args.conversation.now words c.talk.new.conversation)
    (g.C.Conversation.is_over c.talk.new.conversation) c.in_ok-session.ensures (c.talk.ensures.talked wire s)

pub returns-clause-broken : goal.returns-clause-broken
returns-clause-broken g c = λ wire s.
    conversed_in_part c.talk.result c.args.audited.now c.in_ok-session.session wire (payload_in c.args.line.now)
    (λ words. g.C.Conversation.passed c.args.conversation.now words c.talk.new.conversation) c.in_ok-session.ensures
    (c.talk.ensures.broken wire s)
