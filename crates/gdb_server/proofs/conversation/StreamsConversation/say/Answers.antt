use Rattle.gdb_server.proofs.SessionLemmas.{said_ok}
use Rattle.gdb_server.proofs.SessionFronts.{said_in_part}
use Rattle.gdb_server.proofs.conversation.StreamsConversation.say.Goals as goal

pub returns-clause-said : goal.returns-clause-said
returns-clause-said g c =
    said_ok c.write_all.result (g.I.Source.left c.args.self.now.input) (g.O.Sink.got c.args.self.now.output)
    (g.O.Sink.got c.write_all.new.sink) c.args.bytes.now c.write_all.ensures.all

pub returns-clause-part : goal.returns-clause-part
returns-clause-part g c =
    said_in_part c.write_all.result (g.I.Source.left c.args.self.now.input) (g.O.Sink.got c.args.self.now.output)
    (g.O.Sink.got c.write_all.new.sink) c.args.bytes.now c.write_all.ensures.part
