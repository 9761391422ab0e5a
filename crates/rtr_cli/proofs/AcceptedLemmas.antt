-- What a command accepts it refuses for want of memory alone.
use Rattle.std.proofs.Common.{◌≡◌, refl, sym, subst, ℕ, List, arith}
use Rattle.image_elf.specs.declared.elf_fault.ElfFault.{ElfFault}
use Rattle.image_mem.specs.Contents.{Contents}
use Rattle.certificate_codec.specs.declared.certificate.Certificate.{Certificate}
use Rattle.certificate_codec.specs.Reading.{certificate_at}
use Rattle.conflict_edge.specs.Least.{IsLeast}
use Rattle.log_codec.specs.Reading.{whole_at}
use Rattle.race_log.specs.Sources.{log_edges}
use Rattle.race_log.specs.declared.recording.Recording.{Recording}
use Rattle.min_certificate.specs.Answers.{CheckFails}
use Rattle.min_certificate.specs.Laws.{IsLeastIn}
use Rattle.min_certificate.specs.declared.answers.CertFault.TheVariants as certs
use Rattle.min_certificate.specs.declared.answers.CheckFailure.{CheckFailure}
use Rattle.min_certificate.specs.declared.answers.CheckFailure.TheVariants as failures
use Rattle.min_certificate.specs.declared.answers.CheckFault.TheVariants as checks
use Rattle.min_certificate.proofs.FirstFailure.{least_is_certified, passed_is_accepted}
use Rattle.min_certificate.proofs.Lows.{any_order_is_least}
use Rattle.replay_audit.specs.declared.audit_fault.AuditFault.{AuditFault}
use Rattle.replay_audit.specs.declared.audit_fault.AuditFault.TheVariants as faults
use Rattle.replay_audit.specs.Audits.{AuditRefuses, IsInstrOf}
use Rattle.replay_audit.specs.Determinate.{IsDeterminate}
use Rattle.replay_audit.proofs.RefusedLogs.{refused_law}
use Rattle.run_records.specs.Recordings.{IsRecorded, recording_of}
use Rattle.run_replays.specs.Orders.{order_of}
use Rattle.run_replays.proofs.RunLaws.{of_run, reduced_order, run_is_play}
use Rattle.run_records.proofs.Recordings.{recorded_law}
use Rattle.run_replays.proofs.BothLogs.{both_replay}
use Rattle.schedule_pick.specs.Choices.{Choices, choices_of}
use Rattle.rtr_types.specs.Parameters.{Fits}
use Rattle.rtr_types.specs.declared.access.Access.{Access}
use Rattle.rtr_types.specs.declared.instr.Instr.{Instr}
use Rattle.rtr_types.specs.declared.pairs.Which.{Which}
use Rattle.rtr_types.specs.declared.pairs.Which.TheVariants.{Reduced, Regulated}
use Rattle.rtr_types.specs.declared.params.Params.{Params}
use Rattle.tool_words.specs.declared.command.Command.{Command}
use Rattle.tool_words.specs.declared.command.Command.TheVariants.{Record, Run, Print, Replay, Migrate, Certify, Check}
use Rattle.tool_words.specs.declared.command.Command.TheVariants.{Soak, At, Thin, CheckThin, TsoReplay}
use Rattle.vector_reduce.specs.Answers.{IsTooMany, IsNotShown as IsNotNeededShown}
use Rattle.vector_reduce.specs.Reading.{thinned_at}
use Rattle.vector_reduce.proofs.ThinnedLog.{few_not_many}
use Rattle.rtr_cli.specs.Inputs.{image_of, loaded}
use Rattle.rtr_cli.specs.Certificates.{IsNotLeast}
use Rattle.rtr_cli.specs.Buffers.{TsoStops}
use Rattle.rtr_cli.specs.Commands.{AuditFails, IsAbsent, IsFaulty, IsNotNeeded, IsNotShown, IsTooLong, IsUnread}
use Rattle.rtr_cli.specs.Commands.{Overflows}
use Rattle.tso_codec.specs.Reading.{tso_at}
use Rattle.rtr_cli.specs.Completeness.{Accepts, AcceptedIsNotRefused, IsOfBuffers, IsOfCertify, IsOfRecord}
use Rattle.rtr_cli.specs.Completeness.{IsOfRecordWith, IsOfRecordWithFew, IsOfThin}
use Rattle.rtr_cli.proofs.BufferLemmas.{not_stopped}
use Rattle.rtr_cli.proofs.ReasonLemmas.{HasNoReason, both_said, is_read, memory_alone}

-- ---- the least log

-- an edge that isn't in the least log, of a recording whose log is least
none_amiss : (r : Recording) (failure : CheckFailure) → IsLeastIn r → IsNotLeast r failure → ⊥
none_amiss r (failures.NotConflict edge) least amiss = amiss
none_amiss r (failures.BadClock core entry) least amiss = amiss
none_amiss r (failures.NotNeeded edge) least amiss = amiss
none_amiss r (failures.NotLeast edge) least amiss =
    let none : certs.NotLeast edge ≡ certs.OutOfMemory = least_is_certified r (certs.NotLeast edge) least amiss.1 in
    absurd cc

-- the reduced log is the least set of the low order's accesses too, as it is of those of the order of retirement
least_in_low : (image : Contents) (params : Params) (schedule : Choices) → Fits params → image.words ≡ params.words
    → IsRecorded image params schedule → IsDeterminate Reduced (recording_of image params schedule)
    → IsLeastIn (recording_of image params schedule)
least_in_low image params schedule fits words recorded determinate =
    let r : Recording = recording_of image params schedule in
    let plays = run_is_play image params schedule r Reduced fits words (of_run image params schedule) in
    any_order_is_least r (order_of image params schedule) recorded.valid determinate
    (reduced_order image params schedule fits words) plays.whole
    (subst (λ (list : List Access). IsLeast list (log_edges Reduced r)) (sym plays.accesses) recorded.least)

-- ---- no reason to refuse what is accepted

-- no audit refuses what is determinate
pub determinate_not_audited : (which : Which) (r : Recording) (fault : AuditFault) → IsDeterminate which r
    → AuditRefuses which r fault
    → fault ≡ faults.OutOfMemory
determinate_not_audited which r faults.OutOfMemory is refuses = refl
determinate_not_audited which r (faults.Stuck cut) is refuses = absurd
    (refused_law which r (faults.Stuck cut) refuses (λ e. absurd cc) is)
determinate_not_audited which r (faults.Short core count) is refuses =
    absurd (refused_law which r (faults.Short core count) refuses (λ e. absurd cc) is)
determinate_not_audited which r (faults.Undetermined first second) is refuses =
    absurd (refused_law which r (faults.Undetermined first second) refuses (λ e. absurd cc) is)

-- no audit refuses what `record` makes
not_audited : (which : Which) (r : Recording) (fault : AuditFault) → IsOfRecord r → AuditRefuses which r fault
    → fault ≡ faults.OutOfMemory
not_audited which r fault h refuses =
    (both_replay (image_of h.params h.bytes) h.params (choices_of h.choices h.seed) which h.fits refl
    h.room).answers.not_audited fault
    (subst (λ (q : Recording). AuditRefuses which q fault) h.recorded refuses)

-- its reduced log is least
not_amiss : (r : Recording) (failure : CheckFailure) → IsOfRecord r → IsNotLeast r failure → ⊥
not_amiss r failure h amiss =
    let image : Contents = image_of h.params h.bytes in
    let schedule : Choices = choices_of h.choices h.seed in
    none_amiss (recording_of image h.params schedule) failure
    (least_in_low image h.params schedule h.fits refl (recorded_law image h.params schedule h.fits refl h.room)
    (both_replay image h.params schedule Reduced h.fits refl h.room).determinate)
    (subst (λ (q : Recording). IsNotLeast q failure) h.recorded amiss)

-- the recording of a certificate that `certify` makes is determinate, no audit refuses it, and the certificate passes
determinate_of : (c : Certificate) → IsOfCertify c → IsDeterminate Reduced c.recording
determinate_of c h = subst (λ (q : Recording). IsDeterminate Reduced q) (sym h.certifies.recording) h.determinate

certificate_not_audited : (c : Certificate) (fault : AuditFault) → IsOfCertify c → AuditRefuses Reduced c.recording
    fault → fault ≡ faults.OutOfMemory
certificate_not_audited c fault h refuses = determinate_not_audited Reduced c.recording fault (determinate_of c h)
    refuses

certificate_passes : (c : Certificate) (failure : CheckFailure) → IsOfCertify c → CheckFails c failure → ⊥
certificate_passes c failure h fails =
    let none : checks.Failed failure ≡ checks.OutOfMemory =
    passed_is_accepted c (checks.Failed failure) (determinate_of c h) h.certifies.passes fails in
    absurd cc

-- what it reads has a reading
nothing_unread : (command : Command) (input : List ℕ) → Accepts command input → (part : ℕ)
    → IsUnread command input part → ⊥
nothing_unread Print input a part h = is_read (whole_at input) (λ r. Unit {0}) part a h
nothing_unread (Replay which threads loads) input a part h = is_read (whole_at input) IsOfRecord part a h
nothing_unread Migrate input a part h = is_read (whole_at input) (λ r. Unit {0}) part a h
nothing_unread Certify input a part h = is_read (whole_at input) IsOfRecord part a h
nothing_unread Check input a part h = is_read (certificate_at input) IsOfCertify part a h
nothing_unread (At which at latest loads) input a part h = is_read (whole_at input) (IsOfRecordWith at) part a h
nothing_unread (Thin certify) input a part h = is_read (whole_at input) IsOfRecordWithFew part a h
nothing_unread CheckThin input a part h = is_read (thinned_at input) IsOfThin part a h
nothing_unread (TsoReplay loads) input a part h = is_read (tso_at input) IsOfBuffers part a h
nothing_unread command input a part h = h

-- the recording has the instruction that it names
nothing_absent : (command : Command) (input : List ℕ) → Accepts command input → (absent : Instr)
    → IsAbsent command input absent → ⊥
nothing_absent (At which at latest loads) input a absent h =
    both_said (whole_at input) (IsOfRecordWith at) (λ r. IsInstrOf r at → ⊥) ⊥ (λ r is it. it is.1) a h.0
nothing_absent command input a absent h = h

-- no audit, and no replay, refuses it
nothing_refused : (command : Command) (input : List ℕ) → Accepts command input → (fault : AuditFault)
    → AuditFails command input fault → fault ≡ faults.OutOfMemory
nothing_refused (Replay which threads loads) input a fault h =
    both_said (whole_at input) IsOfRecord (λ r. AuditRefuses which r fault) (fault ≡ faults.OutOfMemory)
    (λ r is it. not_audited which r fault is it) a h
nothing_refused Certify input a fault h =
    both_said (whole_at input) IsOfRecord (λ r. AuditRefuses Reduced r fault) (fault ≡ faults.OutOfMemory)
    (λ r is it. not_audited Reduced r fault is it) a h
nothing_refused Check input a fault h =
    both_said (certificate_at input) IsOfCertify (λ c. AuditRefuses Reduced c.recording fault)
    (fault ≡ faults.OutOfMemory) (λ c is it. certificate_not_audited c fault is it) a h
nothing_refused (At which at latest loads) input a fault h =
    both_said (whole_at input) (IsOfRecordWith at) (λ r. IsInstrOf r at × AuditRefuses which r fault)
    (fault ≡ faults.OutOfMemory) (λ r is it. not_audited which r fault is.0 it.1) a h
nothing_refused (Thin certify) input a fault h =
    both_said (whole_at input) IsOfRecordWithFew (λ r. AuditRefuses Regulated r fault) (fault ≡ faults.OutOfMemory)
    (λ r is it. not_audited Regulated r fault is.0 it) a h
nothing_refused CheckThin input a fault h =
    both_said (thinned_at input) IsOfThin (λ t. AuditRefuses Regulated t.recording fault) (fault ≡ faults.OutOfMemory)
    (λ t is it. determinate_not_audited Regulated t.recording fault is.1.determinate it) a h
nothing_refused (TsoReplay loads) input a fault h =
    both_said (tso_at input) IsOfBuffers (λ r. TsoStops r fault) (fault ≡ faults.OutOfMemory)
    (λ r is it. not_stopped r fault is it) a h
nothing_refused command input a fault h = absurd h

-- its reduced log is shown to be least
nothing_unshown : (command : Command) (input : List ℕ) → Accepts command input → (failure : CheckFailure)
    → IsNotShown command input failure → ⊥
nothing_unshown Certify input a failure h =
    both_said (whole_at input) IsOfRecord (λ r. IsNotLeast r failure) ⊥ (λ r is it. not_amiss r failure is it) a h
nothing_unshown Check input a failure h =
    both_said (certificate_at input) IsOfCertify (λ c. CheckFails c failure) ⊥
    (λ c is it. certificate_passes c failure is it) a h
nothing_unshown command input a failure h = h

-- its vectors are few
nothing_too_long : (command : Command) (input : List ℕ) → Accepts command input → (vectors edges : ℕ)
    → IsTooLong command input vectors edges → ⊥
nothing_too_long (Thin certify) input a vectors edges h =
    both_said (whole_at input) IsOfRecordWithFew (λ r. IsDeterminate Regulated r × IsTooMany r vectors edges) ⊥
    (λ r is it. few_not_many r is.1 it.1.too_many) a h
nothing_too_long command input a vectors edges h = h

-- each of its vectors is shown to be needed
nothing_needless : (command : Command) (input : List ℕ) → Accepts command input → (vector : ℕ)
    → IsNotNeeded command input vector → ⊥
nothing_needless CheckThin input a vector h =
    both_said (thinned_at input) IsOfThin (λ t. IsNotNeededShown t vector) ⊥
    (λ t is it. it.not_shown (is.1.shown.each it.before it.within).shown) a h
nothing_needless command input a vector h = h

-- its ELF file has no fault
nothing_faulty : (command : Command) (input : List ℕ) → Accepts command input → (fault : ElfFault)
    → IsFaulty command input fault → ⊥
nothing_faulty (Record run) input a fault h = is_read (loaded run input) (λ bytes. Unit {0}) fault a h
nothing_faulty (Run run loads) input a fault h = is_read (loaded run input) (λ bytes. Unit {0}) fault a h
nothing_faulty command input a fault h = h

-- the image that it makes fits the memory
nothing_overflows : (command : Command) (input : List ℕ) → Accepts command input → Overflows command → ⊥
nothing_overflows (Soak shape number params seed) input a h = absurd (omega (arith, a, h))
nothing_overflows command input a h = h

pub no_reason : (command : Command) (input : List ℕ) → Accepts command input → HasNoReason command input
no_reason command input a = record {
  read = nothing_unread command input a;
  present = nothing_absent command input a;
  audited = nothing_refused command input a;
  shown = nothing_unshown command input a;
  few = nothing_too_long command input a;
  needed = nothing_needless command input a;
  faultless = nothing_faulty command input a;
  holds = nothing_overflows command input a;
}

pub accepted_is_not_refused : AcceptedIsNotRefused
accepted_is_not_refused command input exit a it = memory_alone command input exit (no_reason command input a) it
