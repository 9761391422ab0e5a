use Rattle.std.proofs.Common.{arith}
use Rattle.gdb_monitor.proofs.AnswerFrames.{if_ok}
use Rattle.gdb_monitor.proofs.AskedCuts.{goes_around}
use Rattle.gdb_monitor.proofs.moves.go_around.Goals as goal

pub returns-clause-ok : goal.returns-clause-ok
returns-clause-ok c =
    if_ok c.go.result
    (λ told comes. goes_around c.args.audited.now c.args.place.now c.requires c.go.new.place told c.args.extreme
    c.args.core c.cut.result c.in_ok-to.to c.cut.ensures.cut (omega arith) c.in_ok-to.ensures.is comes)
    c.go.ensures.ok
