use Rattle.std.proofs.Common.{ℕ, subst}
use Rattle.std.specs.Prelude.{Option}
use Rattle.debug_place.specs.Hits.{FirstIn, hits_at}
use Rattle.debug_place.proofs.CountTests.{first_found, first_last, none_found}
use Rattle.debug_place.proofs.counts.first_count.Goals as goal

pub returns-in-Some : goal.returns-in-Some
returns-in-Some g c =
    let a = c.args.index.now in
    let hits = g.S.Stops.hits c.args.stops.now in
    first_found hits a c.args.core c.args.from c.args.past c.requires.past c.in-Some.count
    (subst (λ (found : Option ℕ).
    FirstIn (hits_at hits a.which a.recording c.args.core) c.args.from c.args.past found)
    c.in-Some.is c.first_hit.ensures)

pub returns-then-ends_in : goal.returns-then-ends_in
returns-then-ends_in g c =
    let a = c.args.index.now in
    let hits = g.S.Stops.hits c.args.stops.now in
    first_last hits a c.args.core c.args.from c.args.past c.requires.past
    (subst (λ (found : Option ℕ).
    FirstIn (hits_at hits a.which a.recording c.args.core) c.args.from c.args.past found)
    c.in_default.is c.first_hit.ensures)
    (c.ends_in.ensures.yes c.if-ends_in.true)

pub returns : goal.returns
returns g c =
    let a = c.args.index.now in
    let hits = g.S.Stops.hits c.args.stops.now in
    none_found hits a c.args.core c.args.from c.args.past c.requires.past
    (subst (λ (found : Option ℕ).
    FirstIn (hits_at hits a.which a.recording c.args.core) c.args.from c.args.past found)
    c.in_default.is c.first_hit.ensures)
    (c.ends_in.ensures.no c.if-ends_in.false)
