-- What is thinned is determinate by its regulated log.
use Rattle.std.proofs.Common.{◌≡◌, ◌∙◌, sym, ap, subst, Bool, false, List, ℕ, Result, Ok, Err}
use Rattle.std.specs.Prelude.{Option}
use Rattle.rtr_types.specs.declared.pairs.Which.{Which}
use Rattle.rtr_types.specs.declared.pairs.Which.TheVariants.{Regulated}
use Rattle.race_log.specs.declared.recording.Recording.{Recording}
use Rattle.log_codec.specs.declared.version.Version.TheVariants.{Two}
use Rattle.log_codec.specs.Reading.{whole_at}
use Rattle.log_codec.proofs.RecordingLaws.{spelled_is_read}
use Rattle.replay_audit.specs.Audits.{AuditRefuses, Findings, IsAuditOf}
use Rattle.replay_audit.specs.Determinate.{IsDeterminate}
use Rattle.replay_audit.specs.declared.audit_fault.AuditFault.{AuditFault}
use Rattle.replay_audit.specs.declared.audit_fault.AuditFault.TheVariants as faults
use Rattle.vector_reduce.specs.declared.thinned.Thinned.{Thinned}
use Rattle.vector_reduce.specs.Answers.{IsThinningOf, IsTooMany}
use Rattle.state_text.specs.declared.exit.Exit.{Exit}
use Rattle.state_text.specs.declared.exit.Exit.TheVariants as exits
use Rattle.tool_words.specs.declared.command.Command.TheVariants.{Replay}
use Rattle.rtr_cli.specs.Inputs.{SpellsSome}
use Rattle.rtr_cli.specs.Replays.{AuditEnds, exit_of_audit}
use Rattle.rtr_cli.specs.Thinnings.{CheckThinEnds, IsThinnedTo, ThinEnds, thinned_bytes}
use Rattle.rtr_cli.specs.Laws.{ThinnedIsReplayed}
use Rattle.rtr_cli.proofs.AcceptedLemmas.{determinate_not_audited}
use Rattle.rtr_cli.proofs.ReasonLemmas.{HasNoReason, both_said, is_read, memory_alone}

-- nothing speaks against a replay of what is determinate
replayed : (threads : Option ℕ) (loads : Bool) (out : List ℕ) → SpellsSome (whole_at out) (IsDeterminate Regulated)
    → HasNoReason (Replay Regulated threads loads) out
replayed threads loads out a = record {
  read = λ part h. is_read (whole_at out) (IsDeterminate Regulated) part a h;
  present = λ at h. h;
  audited = λ fault h.
      both_said (whole_at out) (IsDeterminate Regulated) (λ r. AuditRefuses Regulated r fault)
      (fault ≡ faults.OutOfMemory) (λ r is it. determinate_not_audited Regulated r fault is it) a h;
  shown = λ failure h. h;
  few = λ vectors edges h. h;
  needed = λ vector h. h;
  faultless = λ fault h. h;
  holds = λ h. h;
}

-- a thinned recording is read back, and is determinate
thinned_reads : (out : List ℕ) (read : Result Recording ℕ) → SpellsSome read (λ r. IsThinnedTo false r out)
    → SpellsSome (whole_at out) (IsDeterminate Regulated)
thinned_reads out (Ok r) (t, thinning, is) =
    let back : whole_at out ≡ Ok t.recording =
    ap whole_at is ∙ spelled_is_read Two t.recording thinning.thin.recording thinning.thin.recording.params in
    subst (λ (found : Result Recording ℕ). SpellsSome found (IsDeterminate Regulated)) (sym back) thinning.determinate
thinned_reads out (Err part) made = absurd made

-- ---- what was audited is what was read

-- its thinning is written
pub thinned_to : (certify : Bool) (r : Recording) (a : Findings) (t : Thinned) (out : List ℕ) → IsAuditOf Regulated r
    a → IsThinningOf a.recording t
    → out ≡ thinned_bytes certify t → IsThinnedTo certify r out
thinned_to certify r a t out audited thinning made
    = (t, subst (λ (q : Recording). IsThinningOf q t) audited.recording_is thinning, made)

-- or it has too many vectors
pub too_many_audited : (r : Recording) (a : Findings) (vectors edges : ℕ) → IsAuditOf Regulated r a
    → IsTooMany a.recording vectors edges
    → IsDeterminate Regulated r × IsTooMany r vectors edges
too_many_audited r a vectors edges audited many =
    let by_which : IsDeterminate Regulated a.recording =
    subst (λ (w : Which). IsDeterminate w a.recording) audited.which_is audited.passed.determinate in (
      subst (λ (q : Recording). IsDeterminate Regulated q) audited.recording_is by_which,
      subst (λ (q : Recording). IsTooMany q vectors edges) audited.recording_is many,
    )

-- the audit of a recording that is to be thinned was refused
pub thin_ends : (r : Recording) (exit : Exit) → AuditEnds Regulated r exit → ThinEnds r exit
thin_ends r (exits.Stuck cut) it = it
thin_ends r (exits.Short core count) it = it
thin_ends r (exits.Undetermined first second) it = it
thin_ends r (exits.CheckFailed failure) it = it
thin_ends r exits.OutOfMemory it = tt
thin_ends r (exits.Bad part) it = it
thin_ends r exits.Done it = it
thin_ends r exits.Usage it = it
thin_ends r exits.TooLarge it = it
thin_ends r exits.ReadFault it = it
thin_ends r exits.WriteFault it = it
thin_ends r (exits.Elf fault) it = it
thin_ends r (exits.NoInstr at) it = it
thin_ends r (exits.TooMany vectors edges) it = absurd it
thin_ends r (exits.NotShown vector) it = it

-- and that of one in a thin file
pub thin_check_ends : (t : Thinned) (fault : AuditFault) → AuditRefuses Regulated t.recording fault
    → CheckThinEnds t (exit_of_audit fault)
thin_check_ends t (faults.Stuck cut) it = it
thin_check_ends t (faults.Short core count) it = it
thin_check_ends t (faults.Undetermined first second) it = it
thin_check_ends t faults.OutOfMemory it = tt

pub thinned_is_replayed : ThinnedIsReplayed
thinned_is_replayed threads loads input out exit made refused =
    memory_alone (Replay Regulated threads loads) out exit
    (replayed threads loads out (thinned_reads out (whole_at input) made)) refused
