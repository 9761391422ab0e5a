use Rattle.std.proofs.Common.{refl}
use Rattle.gdb_monitor.proofs.AnswerFrames.{if_ok}
use Rattle.gdb_monitor.proofs.AskedCuts.{goes_before}
use Rattle.gdb_monitor.proofs.lasts.go_before.Goals as goal

pub returns-clause-ok : goal.returns-clause-ok
returns-clause-ok c =
    if_ok c.go.result
    (λ told comes. goes_before c.args.audited.now c.args.place.now c.requires c.go.new.place told c.args.at
    c.in_ok-to.to c.recording.result.now c.recording.ensures.recording (c.if-not-has_instr.ensures.0 refl)
    c.in_ok-to.ensures comes)
    c.go.ensures.ok
