use Rattle.std.proofs.Common.{◌∙◌, ℕ, subst}
use Rattle.std.specs.Prelude.{Option}
use Rattle.std.proofs.lemmas.Result.{err_from_is_err_and}
use Rattle.vector_reduce.specs.Showing.{FirstNotShown}
use Rattle.vector_reduce.specs.Vectors.{vectors_of}
use Rattle.vector_reduce.proofs.CheckAnswers.{accepted, audit_complete, audited_is, not_accepted, shown_is_accepted}
use Rattle.vector_reduce.proofs.checking.check_thin.Goals as goal

pub returns-in_err-audit-clause-complete : goal.returns-in_err-audit-clause-complete
returns-in_err-audit-clause-complete c d p =
    let q = err_from_is_err_and c.from_residual-in_err-audit.result c.from_residual-in_err-audit.ensures.1 in
    rw q.1 (q.2 ∙ audit_complete c.args.value.now.recording _ c.in_err-audit.field-0.0 c.in_ok-recording.ensures d
    c.in_err-audit.ensures)

pub returns-in-Some-clause-answer : goal.returns-in-Some-clause-answer
returns-in-Some-clause-answer c =
    let t = c.args.value.now in
    let determinate = audited_is t.recording _ _ c.in_ok-recording.ensures c.in_ok-audit.ensures in
    not_accepted t c.in-Some.before determinate
    (subst (λ (o : Option ℕ). FirstNotShown (vectors_of t.recording) t.shown o) c.in-Some.is
    c.in_ok-before.ensures.first)

pub returns-in-Some-clause-complete : goal.returns-in-Some-clause-complete
returns-in-Some-clause-complete c d p =
    let t = c.args.value.now in
    absurd (shown_is_accepted t c.in-Some.before p
    (subst (λ (o : Option ℕ). FirstNotShown (vectors_of t.recording) t.shown o) c.in-Some.is
    c.in_ok-before.ensures.first))

pub returns-in-None-clause-answer : goal.returns-in-None-clause-answer
returns-in-None-clause-answer c =
    let t = c.args.value.now in
    let determinate = audited_is t.recording _ _ c.in_ok-recording.ensures c.in_ok-audit.ensures in
    accepted t determinate
    (subst (λ (o : Option ℕ). FirstNotShown (vectors_of t.recording) t.shown o) c.in-None.is
    c.in_ok-before.ensures.first)
