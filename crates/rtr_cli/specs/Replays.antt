-- What replays by the low order give, and how commands end that replay a recording.
use Rattle.std.specs.Prelude.{ℕ, Bool, List}
use Rattle.race_log.specs.declared.recording.Recording.{Recording}
use Rattle.rtr_types.specs.declared.pairs.Which.{Which}
use Rattle.replay_core.specs.Plans.{recorded_image}
use Rattle.replay_audit.specs.declared.audit_fault.AuditFault.{AuditFault}
use Rattle.replay_audit.specs.declared.audit_fault.AuditFault.TheVariants as faults
use Rattle.replay_audit.specs.Audits.{AuditRefuses, EveryOrderAgrees}
use Rattle.replay_audit.specs.Determinate.{IsDeterminate, low_outcome}
use Rattle.min_certificate.specs.declared.answers.CheckFailure.{CheckFailure}
use Rattle.state_text.specs.declared.exit.Exit.{Exit}
use Rattle.state_text.specs.declared.exit.Exit.TheVariants as exits
use Rattle.state_text.specs.States.{state_lines}

-- the state text of the play of the recording's low order by the log
abbrev pub replay_lines : Which → (loads : Bool) → Recording → List ℕ
replay_lines which loads r = state_lines (low_outcome which r) (recorded_image r) loads

-- how a command ends whose audit was refused so
abbrev pub exit_of_audit : AuditFault → Exit
exit_of_audit (faults.Stuck cut) = exits.Stuck cut
exit_of_audit (faults.Short core count) = exits.Short core count
exit_of_audit (faults.Undetermined first second) = exits.Undetermined first second
exit_of_audit faults.OutOfMemory = exits.OutOfMemory

-- a command that audits and checks ends so: by what the audit answers, or by what isn't shown. Want of memory says
-- nothing
abbrev pub Ends : (AuditFault → Type 0) → (CheckFailure → Type 0) → Exit → Type 0
Ends Audits Shows (exits.Stuck cut) = Audits (faults.Stuck cut)
Ends Audits Shows (exits.Short core count) = Audits (faults.Short core count)
Ends Audits Shows (exits.Undetermined first second) = Audits (faults.Undetermined first second)
Ends Audits Shows (exits.CheckFailed failure) = Shows failure
Ends Audits Shows exits.OutOfMemory = Unit {0}
Ends Audits Shows (exits.Bad part) = ⊥
Ends Audits Shows exits.Done = ⊥
Ends Audits Shows exits.Usage = ⊥
Ends Audits Shows exits.TooLarge = ⊥
Ends Audits Shows exits.ReadFault = ⊥
Ends Audits Shows exits.WriteFault = ⊥
Ends Audits Shows (exits.Elf fault) = ⊥
Ends Audits Shows (exits.NoInstr at) = ⊥
Ends Audits Shows (exits.TooMany vectors edges) = ⊥
Ends Audits Shows (exits.NotShown vector) = ⊥

-- a command that replays this recording by the log ends so
abbrev pub AuditEnds : Which → Recording → Exit → Type 0
AuditEnds which r exit = Ends (λ fault. AuditRefuses which r fault) (λ failure. ⊥) exit

-- the recording is determinate by the log: every order that obeys it plays, gives each load the same value, and can
-- go on until it is whole, where it ends as the low order does
abbrev pub IsReplayed : Which → Recording → Type 0
IsReplayed which r = IsDeterminate which r × EveryOrderAgrees which r
