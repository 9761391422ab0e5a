-- Certificates that a log is least, and how commands end that make or check them.
use Rattle.std.specs.Prelude.{◌≡◌, ℕ, List}
use Rattle.race_log.specs.declared.recording.Recording.{Recording}
use Rattle.rtr_types.specs.declared.pairs.Which.TheVariants.{Reduced}
use Rattle.race_log.specs.Counts.{edge_count_of}
use Rattle.replay_audit.specs.Audits.{AuditRefuses}
use Rattle.replay_audit.specs.Determinate.{IsDeterminate}
use Rattle.certificate_codec.specs.declared.certificate.Certificate.{Certificate}
use Rattle.certificate_codec.specs.Spelling.{spelling as certificate_spelling}
use Rattle.min_certificate.specs.declared.answers.CheckFailure.{CheckFailure}
use Rattle.min_certificate.specs.declared.answers.CheckFailure.TheVariants as failures
use Rattle.min_certificate.specs.Answers.{Certifies, CheckFails, IsFirstAmiss}
use Rattle.state_text.specs.declared.exit.Exit.{Exit}
use Rattle.state_text.specs.Checks.{check_lines}
use Rattle.rtr_cli.specs.Replays.{Ends}

-- the spelling of a certificate that the recording's reduced log is least. Its clocks are exact, so there is one
abbrev pub IsCertified : Recording → (out : List ℕ) → Type 0
IsCertified r out = (c : Certificate) × Certifies r c × (out ≡ certificate_spelling c)

-- what a check of the certificate prints: the number of edges of the reduced log
abbrev pub checked_lines : Certificate → List ℕ
checked_lines c = check_lines (edge_count_of Reduced c.recording)

-- the recording is determinate, and this is the first edge that no least log has
abbrev pub IsNotLeast : Recording → CheckFailure → Type 0
IsNotLeast r (failures.NotConflict edge) = ⊥
IsNotLeast r (failures.BadClock core entry) = ⊥
IsNotLeast r (failures.NotNeeded edge) = ⊥
IsNotLeast r (failures.NotLeast edge) = IsDeterminate Reduced r × IsFirstAmiss r edge

-- a command that certifies this recording ends so
abbrev pub CertifyEnds : Recording → Exit → Type 0
CertifyEnds r exit = Ends (λ fault. AuditRefuses Reduced r fault) (IsNotLeast r) exit

-- a command that checks this certificate ends so
abbrev pub CheckEnds : Certificate → Exit → Type 0
CheckEnds c exit = Ends (λ fault. AuditRefuses Reduced c.recording fault) (CheckFails c) exit
