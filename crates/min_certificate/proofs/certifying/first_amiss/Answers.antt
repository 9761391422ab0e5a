use Rattle.std.proofs.Common.{◌≡◌, List, ap, sym, subst}
use Rattle.rtr_types.specs.declared.access.Access.{Access}
use Rattle.race_log.specs.declared.recording.Recording.{Recording}
use Rattle.clock_entries.specs.Ends.{Clocks}
use Rattle.certificate_codec.specs.declared.certificate.Certificate.{Certificate}
use Rattle.min_certificate.specs.Clocks.{HasClocks}
use Rattle.least_lists.specs.LeastLists.{AreOf}
use Rattle.min_certificate.proofs.FirstFailure.{IsLow, low_below, low_rises, amiss_found}
use Rattle.min_certificate.proofs.certifying.first_amiss.Goals as goal

pub new-requires-clause-cores : goal.new-requires-clause-cores
new-requires-clause-cores c =
    let r = c.args.ends in
    let low : IsLow r c.args.accesses.now =
    record { determinate = c.requires.determinate; list_is = c.requires.accesses } in
    subst (λ (q : Recording). AreOf q.params.cores c.args.accesses.now) (sym c.recording.ensures.recording)
    (low_below r c.args.accesses.now c.recording.ensures.valid low)

pub new-requires-clause-rise : goal.new-requires-clause-rise
new-requires-clause-rise c =
    let low : IsLow c.args.ends c.args.accesses.now =
    record { determinate = c.requires.determinate; list_is = c.requires.accesses } in
    low_rises c.args.ends c.args.accesses.now low

pub returns : goal.returns
returns c =
    let r = c.args.ends in
    let low : IsLow r c.args.accesses.now =
    record { determinate = c.requires.determinate; list_is = c.requires.accesses } in
    let here : IsLow r c.in_ok-accesses.accesses =
    subst (λ (l : List Access). IsLow r l) (sym c.in_ok-accesses.ensures) low in
    let recording : c.new-entries.result.recording ≡ r = ap (λ (d : Certificate). d.recording) c.new-entries.ensures in
    let clocks : c.new-entries.result.clocks ≡ c.args.clocks.now =
    ap (λ (d : Certificate). d.clocks) c.new-entries.ensures in
    amiss_found r c.new-entries.result c.in_ok-accesses.accesses c.first_amiss.result c.recording.ensures.valid here
    (subst (λ (k : Clocks). HasClocks r k) (sym clocks) c.requires.clocks) recording c.first_amiss.ensures
