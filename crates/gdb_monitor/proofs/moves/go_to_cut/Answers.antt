use Rattle.std.proofs.Common.{refl, sym, subst, ◌∙◌}
use Rattle.rtr_types.specs.declared.cut.Cut.{Cut}
use Rattle.race_log.specs.declared.recording.Recording.{Recording}
use Rattle.race_log.specs.Validity.{Valid}
use Rattle.cut_replay.specs.ClosedCuts.{IsCutOf}
use Rattle.gdb_monitor.specs.Moves.{AreCounts}
use Rattle.gdb_monitor.proofs.AnswerFrames.{if_ok}
use Rattle.gdb_monitor.proofs.AskedCuts.{counted_cut, goes_to_cut}
use Rattle.gdb_monitor.proofs.moves.go_to_cut.Goals as goal

pub go_if_closed-requires-clause-cut : goal.go_if_closed-requires-clause-cut
go_if_closed-requires-clause-cut c =
    let r = c.args.place.now.recording in
    subst (λ (cut : Cut). IsCutOf r cut) (sym c.cut_with_counts-to.ensures)
    (counted_cut r (subst (λ (q : Recording). Valid q) c.requires.recording c.recording.ensures.valid) c.args.counts.now
    (subst (λ (q : Recording). AreCounts q c.args.counts.now) (c.recording.ensures.recording ∙ c.requires.recording)
    (c.if-not-are_counts.ensures.0 refl))
    c.cores.result c.cores.ensures)

pub returns-clause-ok : goal.returns-clause-ok
returns-clause-ok c =
    if_ok c.go_if_closed.result
    (λ told goes. goes_to_cut c.args.audited.now c.args.place.now c.requires c.go_if_closed.new.place told
    c.args.counts.now c.recording.result.now c.recording.ensures.recording (c.if-not-are_counts.ensures.0 refl)
    c.cores.result c.cores.ensures c.cut_with_counts-to.result c.cut_with_counts-to.ensures goes)
    c.go_if_closed.ensures.ok
