-- Too many vectors or positions are refused by their counts alone; few are thinned, unless memory runs out.
use Rattle.std.proofs.Common.{◌≡◌, Err, None, Some, ap, subst}
use Rattle.std.specs.Prelude.{MatchOption, Option}
use Rattle.race_log.specs.declared.recording.Recording.{Recording}
use Rattle.vector_reduce.specs.declared.answers.ThinFault.{ThinFault}
use Rattle.vector_reduce.specs.Answers.{AreFew, IsRefusedFor}
use Rattle.vector_reduce.specs.Kept.{IsShownLeft}
use Rattle.vector_reduce.proofs.ThinnedLog.{determinate_of, few_not_many, refused_is, thinning_of}
use Rattle.vector_reduce.proofs.thinning.thin.Goals as goal

-- what the counts said
is_refused : (q r : Recording) (o : Option ThinFault) (fault : ThinFault) → q ≡ r →
    MatchOption o (AreFew q) (IsRefusedFor q) → o ≡ Some fault →
    IsRefusedFor r fault
is_refused q r o fault same h is =
    subst (λ (s : Recording). IsRefusedFor s fault) same
    (subst (λ (p : Option ThinFault). MatchOption p (AreFew q) (IsRefusedFor q)) is h)

is_few : (q r : Recording) (o : Option ThinFault) → q ≡ r → MatchOption o (AreFew q) (IsRefusedFor q) → o ≡ None →
    AreFew r
is_few q r o same h is =
    subst (λ (s : Recording). AreFew s) same
    (subst (λ (p : Option ThinFault). MatchOption p (AreFew q) (IsRefusedFor q)) is h)

pub returns-in-Some-clause-answer : goal.returns-in-Some-clause-answer
returns-in-Some-clause-answer c =
    refused_is c.args.audited.now.recording c.in-Some.fault
    (is_refused c.recording-recording.result.now c.args.audited.now.recording c.refused.result c.in-Some.fault
    c.recording-recording.ensures.recording
    c.refused.ensures c.in-Some.is)

pub returns-in-Some-clause-complete : goal.returns-in-Some-clause-complete
returns-in-Some-clause-complete c few =
    absurd (few_not_many c.args.audited.now.recording few
    (is_refused c.recording-recording.result.now c.args.audited.now.recording c.refused.result c.in-Some.fault
    c.recording-recording.ensures.recording
    c.refused.ensures c.in-Some.is).0)

pub returns-in-Some-clause-refused : goal.returns-in-Some-clause-refused
returns-in-Some-clause-refused c many =
    ap (λ (f : ThinFault). Err f)
    (is_refused c.recording-recording.result.now c.args.audited.now.recording c.refused.result c.in-Some.fault
    c.recording-recording.ensures.recording
    c.refused.ensures c.in-Some.is).1

pub returns-in_err-left_of-clause-refused : goal.returns-in_err-left_of-clause-refused
returns-in_err-left_of-clause-refused c many =
    absurd (few_not_many c.args.audited.now.recording
    (is_few c.recording-recording.result.now c.args.audited.now.recording c.refused.result
    c.recording-recording.ensures.recording c.refused.ensures
    c.in_default.is) many)

pub returns-clause-answer : goal.returns-clause-answer
returns-clause-answer c =
    let r = c.args.audited.now.recording in
    let same = c.recording-recording.ensures.recording in
    thinning_of r c.in_ok-left_of.field-0 c.recording-recording.ensures.valid
    (is_few c.recording-recording.result.now r c.refused.result same c.refused.ensures c.in_default.is)
    (determinate_of c.args.audited.now c.requires c.accesses.ensures.passed)
    (subst (λ (q : Recording). IsShownLeft q c.in_ok-left_of.field-0) same c.in_ok-left_of.ensures)

pub returns-clause-refused : goal.returns-clause-refused
returns-clause-refused c many =
    absurd (few_not_many c.args.audited.now.recording
    (is_few c.recording-recording.result.now c.args.audited.now.recording c.refused.result
    c.recording-recording.ensures.recording c.refused.ensures
    c.in_default.is) many)
