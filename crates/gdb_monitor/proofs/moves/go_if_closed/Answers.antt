use Rattle.std.proofs.Common.{refl}
use Rattle.gdb_monitor.proofs.AnswerFrames.{if_ok}
use Rattle.gdb_monitor.proofs.AskedCuts.{cuts_differ, not_closed}
use Rattle.gdb_monitor.proofs.moves.go_if_closed.Goals as goal

pub returns-else-eq-clause-ok : goal.returns-else-eq-clause-ok
returns-else-eq-clause-ok c =
    if_ok c.open_text.result
    (λ told is. not_closed c.args.audited.now c.args.place.now c.requires.run c.args.place.now told c.args.to.now
    c.in_ok-hull.hull c.requires.cut c.in_ok-hull.ensures
    (cuts_differ c.in_ok-hull.hull c.args.to.now c.if-eq.ensures) refl is)
    c.open_text.ensures
