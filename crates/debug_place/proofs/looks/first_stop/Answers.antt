use Rattle.std.proofs.Common.{◌≤◌, List, ℕ, ap, arith, length, subst, sym}
use Rattle.replay_core.specs.Orders.{counts, nought}
use Rattle.cut_replay.specs.ClosedCuts.{count_in}
use Rattle.debug_place.proofs.StopPlaces.{in_line}
use Rattle.std.specs.Prelude.{Option, Some}
use Rattle.debug_place.specs.Hits.{FirstIn, IsFirst, stops_on}
use Rattle.debug_place.proofs.CountTests.{first_join}
use Rattle.debug_place.proofs.looks.first_stop.Goals as goal

pub start-start-requires : goal.start-start-requires
start-start-requires g c =
    let a = c.args.index.now in
    let passed = c.audited-audited.ensures.passed in
    λ core few. subst (λ (l : List ℕ). count_in c.args.high.now core ≤ counts nought l core) (sym c.requires.timeline)
    (in_line a.which a.recording passed.valid passed.passed.determinate c.args.low.now c.args.high.now
    c.requires.within c.requires.high core)

pub returns-in-Some : goal.returns-in-Some
returns-in-Some g c =
    let a = c.args.index.now in
    let at = stops_on (g.S.Stops.hits c.args.stops.now) a.which a.recording c.args.low.now c.args.high.now
    c.args.timeline.now in
    let some : IsFirst at 0 c.min-past.result c.in-Some.number =
    first_join at 0 c.loop-span.from c.min-past.result (Some c.in-Some.number) (omega arith) c.loop-span.invariant.none
    (subst (λ (found : Option ℕ). FirstIn at c.loop-span.from c.min-past.result found) c.in-Some.is
    c.first_within.ensures) in
    let all = ap (λ (l : List ℕ). length l) c.as_slice-places.ensures in
    let least = c.min-past.ensures in
    let most = some.most in
    record { least = omega arith; most = omega arith; here = some.here; before = some.before }
