use Rattle.std.proofs.Common.{◌∙◌, subst}
use Rattle.race_log.specs.declared.recording.Recording.{Recording}
use Rattle.replay_audit.specs.Audits.{IsAuditOf}
use Rattle.rtr_types.specs.declared.pairs.Which.TheVariants.{Reduced}
use Rattle.rtr_cli.proofs.RecordingLemmas.{run_audited}
use Rattle.rtr_cli.proofs.soaks.replayed.Goals as goal

-- what was audited is the recording of the run
pub returns-clause-outcome : goal.returns-clause-outcome
returns-clause-outcome c =
    c.into_parts.ensures.outcome
    ∙ run_audited c.args.image c.args.params c.args.schedule c.in_ok-audited.audited c.requires.fits c.requires.words
    c.requires.room
    (subst (λ (r : Recording). IsAuditOf Reduced r c.in_ok-audited.audited) c.in_ok-recording.ensures.recording
    c.in_ok-audited.ensures)
