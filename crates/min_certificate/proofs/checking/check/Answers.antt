use Rattle.std.proofs.Common.{◌∙◌, subst}
use Rattle.std.specs.Prelude.{Option, MatchOption}
use Rattle.std.proofs.lemmas.Result.{err_from_is_err_and}
use Rattle.rtr_types.specs.declared.pairs.Which.TheVariants.{Reduced}
use Rattle.race_log.specs.declared.recording.Recording.{Recording}
use Rattle.replay_audit.specs.Audits.{AuditRefuses, IsAuditOf}
use Rattle.min_certificate.specs.declared.answers.CheckFailure.{CheckFailure}
use Rattle.min_certificate.specs.declared.answers.CheckFault.TheVariants.{Failed}
use Rattle.min_certificate.specs.Answers.{CheckFails}
use Rattle.min_certificate.specs.Laws.{Passes}
use Rattle.min_certificate.proofs.FirstFailure.{audit_complete, audit_low, checks_of, passed_is_accepted}
use Rattle.min_certificate.proofs.checking.check.Goals as goal

pub returns-in_err-audited-clause-complete : goal.returns-in_err-audited-clause-complete
returns-in_err-audited-clause-complete c d p =
    let k = c.args.certificate.now in
    let q = err_from_is_err_and c.from_residual-in_err-audited.result c.from_residual-in_err-audited.ensures.1 in
    let refused : AuditRefuses Reduced k.recording c.in_err-audited.field-0.0 =
    subst (λ (r : Recording). AuditRefuses Reduced r c.in_err-audited.field-0.0) c.in_ok-recording.ensures
    c.in_err-audited.ensures in
    rw q.1 (q.2 ∙ audit_complete k.recording c.in_err-audited.field-0.0 d refused)

pub returns-in-Some-clause-complete : goal.returns-in-Some-clause-complete
returns-in-Some-clause-complete c d p =
    let k = c.args.certificate.now in
    let fails : CheckFails k c.in-Some.failure =
    subst (λ (o : Option CheckFailure). MatchOption o (Passes k) (CheckFails k)) c.in-Some.is c.in_ok-failure.ensures in
    passed_is_accepted k (Failed c.in-Some.failure) d p fails

pub returns-clause-answer : goal.returns-clause-answer
returns-clause-answer c =
    let k = c.args.certificate.now in
    let passes : Passes k = subst (λ (o : Option CheckFailure). MatchOption o (Passes k) (CheckFails k)) c.in-None.is
    c.in_ok-failure.ensures in
    let audit : IsAuditOf Reduced k.recording c.in_ok-audited.audited =
    subst (λ (q : Recording). IsAuditOf Reduced q c.in_ok-audited.audited) c.in_ok-recording.ensures
    c.in_ok-audited.ensures in
    checks_of k c.requires.recording (audit_low k.recording c.in_ok-audited.audited audit).determinate passes
