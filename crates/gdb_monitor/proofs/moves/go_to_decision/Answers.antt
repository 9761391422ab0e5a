use Rattle.std.proofs.Common.{refl, subst}
use Rattle.race_log.specs.declared.recording.Recording.{Recording}
use Rattle.replay_audit.specs.Audits.{IsInstrOf}
use Rattle.gdb_monitor.proofs.AnswerFrames.{if_ok}
use Rattle.gdb_monitor.proofs.AskedCuts.{goes_nowhere, goes_to_decision}
use Rattle.gdb_monitor.proofs.moves.go_to_decision.Goals as goal

pub returns-then-both_come_next-clause-ok : goal.returns-then-both_come_next-clause-ok
returns-then-both_come_next-clause-ok c =
    if_ok c.go.result
    (λ told comes. goes_to_decision c.args.audited.now c.args.place.now c.requires c.go.new.place told c.args.at
    c.args.other c.in_ok-to.to c.args.audited.now.recording refl
    (record {
      one = subst (λ (r : Recording). IsInstrOf r c.args.at) c.recording.ensures.recording
          (c.if-not-has_instr.ensures.0 refl);
      two = subst (λ (r : Recording). IsInstrOf r c.args.other) c.recording-2.ensures.recording
          (c.if-not-has_instr-2.ensures.0 refl);
    }) c.in_ok-to.ensures (c.if-both_come_next.ensures.0 refl) comes)
    c.go.ensures.ok

pub returns-else-both_come_next-clause-ok : goal.returns-else-both_come_next-clause-ok
returns-else-both_come_next-clause-ok c =
    if_ok c.line.result
    (λ told is. goes_nowhere c.args.audited.now c.args.place.now c.requires c.args.place.now told c.args.at
    c.args.other c.in_ok-to.to c.args.audited.now.recording refl
    (record {
      one = subst (λ (r : Recording). IsInstrOf r c.args.at) c.recording.ensures.recording
          (c.if-not-has_instr.ensures.0 refl);
      two = subst (λ (r : Recording). IsInstrOf r c.args.other) c.recording-2.ensures.recording
          (c.if-not-has_instr-2.ensures.0 refl);
    }) c.in_ok-to.ensures
    (λ both. let no = c.if-both_come_next.ensures.1 both in absurd cc) refl is)
    c.line.ensures
