-- The exact clocks decide each edge of the log: the first amiss is the one named, and without one the log is least and
-- the clocks certify it.
use Rattle.std.proofs.Common.{◌≡◌, ◌∙◌, sym, subst}
use Rattle.std.specs.Prelude.{Option, MatchOption}
use Rattle.rtr_types.specs.declared.instr.Edge.{Edge}
use Rattle.rtr_types.specs.declared.pairs.Which.TheVariants.{Reduced}
use Rattle.race_log.specs.declared.recording.Recording.{Recording}
use Rattle.clock_entries.specs.Ends.{Clocks}
use Rattle.replay_audit.specs.Determinate.{IsDeterminate, low_accesses}
use Rattle.min_certificate.specs.declared.answers.CertFault.TheVariants.{NotLeast}
use Rattle.min_certificate.specs.Answers.{IsFirstAmiss}
use Rattle.min_certificate.specs.Clocks.{HasClocks}
use Rattle.min_certificate.specs.Laws.{IsLeastIn}
use Rattle.min_certificate.proofs.FirstFailure.{audited_low, certifies, least_is_certified}
use Rattle.min_certificate.proofs.certifying.certify.Goals as goal

pub first_amiss-requires-clause-determinate : goal.first_amiss-requires-clause-determinate
first_amiss-requires-clause-determinate c =
    let ends : c.in_ok-ends.ends ≡ c.args.audited.now.recording =
    c.in_ok-ends.ensures ∙ c.recording.ensures.recording in
    subst (λ (r : Recording). IsDeterminate Reduced r) (sym ends)
    (audited_low c.args.audited.now c.requires c.accesses.ensures.passed).determinate

pub first_amiss-requires-clause-clocks : goal.first_amiss-requires-clause-clocks
first_amiss-requires-clause-clocks c =
    let ends : c.in_ok-ends.ends ≡ c.args.audited.now.recording =
    c.in_ok-ends.ensures ∙ c.recording.ensures.recording in
    subst (λ (r : Recording). HasClocks r c.as_slice.result.now) (sym ends)
    (subst (λ (k : Clocks). HasClocks c.args.audited.now.recording k) (sym c.as_slice.ensures) c.in_ok-clocks.ensures)

pub first_amiss-requires-clause-accesses : goal.first_amiss-requires-clause-accesses
first_amiss-requires-clause-accesses c =
    let ends : c.in_ok-ends.ends ≡ c.args.audited.now.recording =
    c.in_ok-ends.ensures ∙ c.recording.ensures.recording in
    subst (λ (r : Recording). c.accesses.result.now ≡ low_accesses Reduced r) (sym ends) (c.accesses.ensures.accesses
    ∙ (audited_low c.args.audited.now c.requires c.accesses.ensures.passed).list_is)

pub returns-in-Some-clause-answer : goal.returns-in-Some-clause-answer
returns-in-Some-clause-answer c =
    let ends : c.in_ok-ends.ends ≡ c.args.audited.now.recording =
    c.in_ok-ends.ensures ∙ c.recording.ensures.recording in
    subst (λ (r : Recording). IsFirstAmiss r c.in-Some.edge) ends
    (subst (λ (o : Option Edge). MatchOption o (IsLeastIn c.in_ok-ends.ends) (IsFirstAmiss c.in_ok-ends.ends))
    c.in-Some.is c.in_ok-edge.ensures)

pub returns-in-Some-clause-complete : goal.returns-in-Some-clause-complete
returns-in-Some-clause-complete c l =
    let ends : c.in_ok-ends.ends ≡ c.args.audited.now.recording =
    c.in_ok-ends.ensures ∙ c.recording.ensures.recording in
    let amiss : IsFirstAmiss c.in_ok-ends.ends c.in-Some.edge =
    subst (λ (o : Option Edge). MatchOption o (IsLeastIn c.in_ok-ends.ends) (IsFirstAmiss c.in_ok-ends.ends))
    c.in-Some.is c.in_ok-edge.ensures in
    least_is_certified c.in_ok-ends.ends (NotLeast c.in-Some.edge) (subst IsLeastIn (sym ends) l) amiss

pub returns-in_ok-recording-in-None-clause-answer : goal.returns-in_ok-recording-in-None-clause-answer
returns-in_ok-recording-in-None-clause-answer c =
    let r = c.args.audited.now.recording in
    let ends : c.in_ok-ends.ends ≡ c.args.audited.now.recording =
    c.in_ok-ends.ensures ∙ c.recording.ensures.recording in
    let least : IsLeastIn c.in_ok-ends.ends =
    subst (λ (o : Option Edge). MatchOption o (IsLeastIn c.in_ok-ends.ends) (IsFirstAmiss c.in_ok-ends.ends))
    c.in-None.is c.in_ok-edge.ensures in
    certifies r (record { recording = c.in_ok-recording-in-None.recording; clocks = c.in_ok-clocks.clocks })
    c.recording.ensures.valid
    (audited_low c.args.audited.now c.requires c.accesses.ensures.passed).determinate c.in_ok-clocks.ensures
    (c.in_ok-recording-in-None.ensures ∙ c.recording-in-None.ensures.recording) (subst IsLeastIn ends least)
