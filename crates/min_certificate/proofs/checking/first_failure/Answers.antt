use Rattle.std.proofs.Common.{◌≡◌, ◌∙◌, List, ap, sym, subst}
use Rattle.std.specs.Prelude.{MatchOption}
use Rattle.rtr_types.specs.declared.access.Access.{Access}
use Rattle.certificate_codec.specs.declared.certificate.Certificate.{Certificate}
use Rattle.min_certificate.specs.Answers.{CheckFails}
use Rattle.min_certificate.specs.Laws.{Passes}
use Rattle.min_certificate.proofs.FirstFailure.{IsLow, audit_low, low_below, low_rises, same_certificate}
use Rattle.min_certificate.proofs.checking.first_failure.Goals as goal

pub new-requires-clause-cores : goal.new-requires-clause-cores
new-requires-clause-cores c =
    let r = c.args.certificate.now.recording in
    low_below r c.accesses.result.now c.requires.valid
    (subst (λ (l : List Access). IsLow r l) (sym c.accesses.ensures.accesses)
    (audit_low r c.args.audited.now c.requires.audit))

pub new-requires-clause-rise : goal.new-requires-clause-rise
new-requires-clause-rise c =
    let r = c.args.certificate.now.recording in
    low_rises r c.accesses.result.now
    (subst (λ (l : List Access). IsLow r l) (sym c.accesses.ensures.accesses)
    (audit_low r c.args.audited.now c.requires.audit))

pub returns : goal.returns
returns c =
    let recording : c.new-entries.result.recording ≡ c.args.certificate.now.recording =
    ap (λ (d : Certificate). d.recording) c.new-entries.ensures
    ∙ c.in_ok-ends.ensures in
    let clocks : c.new-entries.result.clocks ≡ c.args.certificate.now.clocks =
    ap (λ (d : Certificate). d.clocks) c.new-entries.ensures ∙ c.as_slice.ensures in
    subst (λ (d : Certificate). MatchOption c.failure_of.result (Passes d) (CheckFails d))
    (same_certificate c.args.certificate.now c.new-entries.result recording clocks) c.failure_of.ensures
