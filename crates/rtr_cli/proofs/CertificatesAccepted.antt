-- What certify makes is a certificate that check accepts.
use Rattle.std.proofs.Common.{◌≡◌, ◌∙◌, ℕ, List, Result, Ok, sym, ap, subst}
use Rattle.rtr_types.specs.declared.pairs.Which.TheVariants.{Reduced}
use Rattle.race_log.specs.declared.recording.Recording.{Recording}
use Rattle.log_codec.specs.Reading.{whole_at}
use Rattle.replay_audit.specs.Determinate.{IsDeterminate}
use Rattle.certificate_codec.specs.declared.certificate.Certificate.{Certificate}
use Rattle.certificate_codec.specs.Reading.{certificate_at}
use Rattle.certificate_codec.specs.Spelling.{spelling}
use Rattle.certificate_codec.proofs.CertificateLaws.{spelled_is_read, written_spells}
use Rattle.min_certificate.specs.Laws.{IsLeastIn}
use Rattle.tool_words.specs.declared.command.Command.TheVariants.{Certify, Check}
use Rattle.rtr_cli.specs.Inputs.{SpellsSome}
use Rattle.rtr_cli.specs.Certificates.{IsCertified}
use Rattle.rtr_cli.specs.Commands.{Makes}
use Rattle.rtr_cli.specs.Promises.{Promised}
use Rattle.rtr_cli.specs.Laws.{CertifiedIsAccepted}
use Rattle.rtr_cli.specs.Completeness.{Accepts, IsOfCertify}
use Rattle.rtr_cli.proofs.ReasonLemmas.{both_said}
use Rattle.rtr_cli.proofs.AcceptedLemmas.{accepted_is_not_refused}

certified_of : (out : List ℕ) (r : Recording) → IsCertified r out → IsDeterminate Reduced r × IsLeastIn r
    → Accepts Check out
certified_of out r made promised =
    let c : Certificate = made.0 in
    let read : certificate_at out ≡ Ok c =
    ap certificate_at made.2 ∙ spelled_is_read c (spelling c) made.1.certificate (written_spells c made.1.certificate)
    in
    let of_certify : IsOfCertify c = record { recording = r; determinate = promised.0; certifies = made.1 } in
    subst (λ (found : Result Certificate ℕ). SpellsSome found IsOfCertify) (sym read) of_certify

pub check_accepts : (input out : List ℕ) → Makes Certify input out → Promised Certify input → Accepts Check out
check_accepts input out made promised =
    both_said (whole_at input) (λ r. IsCertified r out) (λ r. IsDeterminate Reduced r × IsLeastIn r) (Accepts Check out)
    (λ r m p. certified_of out r m p) made promised

pub certified_is_accepted : CertifiedIsAccepted
certified_is_accepted input out exit made promised refused = accepted_is_not_refused Check out exit
    (check_accepts input out made promised) refused
