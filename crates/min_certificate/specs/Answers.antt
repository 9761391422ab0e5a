-- What certifying and checking answer.
use Rattle.std.specs.Prelude.{◌≡◌, ◌≢◌, ℕ}
use Rattle.rtr_types.specs.declared.instr.Edge.{Edge}
use Rattle.rtr_types.specs.declared.pairs.Which.TheVariants.{Reduced}
use Rattle.race_log.specs.declared.recording.Recording.{Recording}
use Rattle.replay_audit.specs.declared.audit_fault.AuditFault.TheVariants as audits
use Rattle.replay_audit.specs.Audits.{AuditRefuses}
use Rattle.replay_audit.specs.Determinate.{IsDeterminate}
use Rattle.certificate_codec.specs.declared.certificate.Certificate.{Certificate}
use Rattle.certificate_codec.specs.Ends.{reduced_edges}
use Rattle.certificate_codec.specs.Validity.{IsCertificate}
use Rattle.min_certificate.specs.declared.answers.CertFault.{CertFault}
use Rattle.min_certificate.specs.declared.answers.CertFault.TheVariants as certs
use Rattle.min_certificate.specs.declared.answers.CheckFailure.{CheckFailure}
use Rattle.min_certificate.specs.declared.answers.CheckFailure.TheVariants as failures
use Rattle.min_certificate.specs.declared.answers.CheckFault.{CheckFault}
use Rattle.min_certificate.specs.declared.answers.CheckFault.TheVariants as checks
use Rattle.min_certificate.specs.Firsts.{IsFirst, FailsFirst, IsFirstBad}
use Rattle.min_certificate.specs.Laws.{IsConflictIn, AllConflict, IsLeastIn, LeastInEveryOrder, IsAmissIn, Passes}
use Rattle.min_certificate.specs.Places.{AreGoodIn, AreExactIn, IsNeededIn, IsKnownOtherwiseIn}

-- ---- certifying

-- a certificate of the recording, whose reduced log is least; its entries are exact, and it passes
pub record Certifies (r : Recording) (c : Certificate) : Type 0 where
  pub recording : c.recording ≡ r
  pub certificate : IsCertificate c
  pub least : IsLeastIn r
  pub exact : AreExactIn c
  pub passes : Passes c

-- the first reduced edge, by pair and target, that is no conflict or implied by the others
abbrev pub IsFirstAmiss : Recording → Edge → Type 0
IsFirstAmiss r e = IsFirst (λ x y. IsAmissIn r x y → ⊥) (IsAmissIn r) (reduced_edges r) e

-- why there is no certificate. Want of memory says nothing
abbrev pub CertRefuses : Recording → CertFault → Type 0
CertRefuses r (certs.NotLeast edge) = IsFirstAmiss r edge
CertRefuses r certs.OutOfMemory = Unit {0}

-- ---- checking

-- the recording is determinate by its reduced log, and that log is least, by each whole replay order: by this
-- certificate
pub record Checks (c : Certificate) : Type 0 where
  pub determinate : IsDeterminate Reduced c.recording
  pub least : IsLeastIn c.recording
  pub every_order : LeastInEveryOrder c.recording
  pub passes : Passes c

-- the audit passed, and this is the first edge that is no conflict
pub record IsNotConflict (c : Certificate) (e : Edge) : Type 0 where
  pub determinate : IsDeterminate Reduced c.recording
  pub first : FailsFirst (IsConflictIn c.recording) (reduced_edges c.recording) e

-- the audit passed, each edge is a conflict, and this is the first entry that isn't good
pub record IsBadClock (c : Certificate) (core number : ℕ) : Type 0 where
  pub determinate : IsDeterminate Reduced c.recording
  pub conflicts : AllConflict c.recording
  pub first : IsFirstBad c core number

-- the audit passed, each edge is a conflict, the entries are good, and this is the first edge that isn't needed: the
-- entry before its target on the target's core, or that of another logged source of the target, has its source
pub record IsNotNeeded (c : Certificate) (e : Edge) : Type 0 where
  pub determinate : IsDeterminate Reduced c.recording
  pub conflicts : AllConflict c.recording
  pub good : AreGoodIn c
  pub first : IsFirst (IsNeededIn c) (IsKnownOtherwiseIn c) (reduced_edges c.recording) e

abbrev pub CheckFails : Certificate → CheckFailure → Type 0
CheckFails c (failures.NotConflict edge) = IsNotConflict c edge
CheckFails c (failures.BadClock core entry) = IsBadClock c core entry
CheckFails c (failures.NotNeeded edge) = IsNotNeeded c edge
CheckFails c (failures.NotLeast edge) = ⊥

-- why a certificate isn't accepted. Want of memory says nothing, and an audit is never told as refused for it
abbrev pub CheckRefuses : Certificate → CheckFault → Type 0
CheckRefuses c (checks.Audit fault) = AuditRefuses Reduced c.recording fault × (fault ≢ audits.OutOfMemory)
CheckRefuses c (checks.Failed failure) = CheckFails c failure
CheckRefuses c checks.OutOfMemory = Unit {0}

-- ---- laws

-- what is accepted, and what was certified of an audited recording, is refused for want of memory alone
abbrev pub PassedIsAcceptedLaw : Type 0
PassedIsAcceptedLaw = (c : Certificate) (e : CheckFault) → IsDeterminate Reduced c.recording → Passes c →
    CheckRefuses c e → e ≡ checks.OutOfMemory

-- a least log is certified, or memory ran out
abbrev pub LeastIsCertifiedLaw : Type 0
LeastIsCertifiedLaw = (r : Recording) (e : CertFault) → IsLeastIn r → CertRefuses r e → e ≡ certs.OutOfMemory
