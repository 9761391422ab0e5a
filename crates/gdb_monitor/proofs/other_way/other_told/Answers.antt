use Rattle.std.proofs.Common.{refl, subst}
use Rattle.race_log.specs.declared.recording.Recording.{Recording}
use Rattle.replay_audit.specs.Audits.{IsInstrOf}
use Rattle.gdb_monitor.proofs.AnswerFrames.{if_ok}
use Rattle.gdb_monitor.proofs.OtherWays.{other_decided, other_there}
use Rattle.gdb_monitor.proofs.other_way.other_told.Goals as goal

pub returns-then-both_come_next : goal.returns-then-both_come_next
returns-then-both_come_next c =
    if_ok c.other_told.result
    (λ told is. other_there c.args.audited.now c.args.at c.args.next told
    c.args.audited.now.recording refl
    (record {
      one = subst (λ (r : Recording). IsInstrOf r c.args.at) c.recording.ensures.recording
          (c.if-not-has_instr.ensures.0 refl);
      two = subst (λ (r : Recording). IsInstrOf r c.args.next) c.recording-2.ensures.recording
          (c.if-not-has_instr-2.ensures.0 refl);
    })
    c.in_ok-cut.cut c.in_ok-cut.ensures (c.if-both_come_next.ensures.0 refl) is)
    c.other_told.ensures

pub returns-else-both_come_next : goal.returns-else-both_come_next
returns-else-both_come_next c =
    if_ok c.line.result
    (λ told is. other_decided c.args.audited.now c.args.at c.args.next told
    c.args.audited.now.recording refl
    (record {
      one = subst (λ (r : Recording). IsInstrOf r c.args.at) c.recording.ensures.recording
          (c.if-not-has_instr.ensures.0 refl);
      two = subst (λ (r : Recording). IsInstrOf r c.args.next) c.recording-2.ensures.recording
          (c.if-not-has_instr-2.ensures.0 refl);
    })
    c.in_ok-cut.cut c.in_ok-cut.ensures
    (λ both. let no = c.if-both_come_next.ensures.1 both in absurd cc) is)
    c.line.ensures
