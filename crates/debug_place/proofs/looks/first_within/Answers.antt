use Rattle.std.proofs.Common.{◌+◌, ℕ, subst, sym}
use Rattle.std.specs.Prelude.{Option}
use Rattle.debug_place.specs.Hits.{FirstIn, stops_behind, stops_on}
use Rattle.debug_place.proofs.SeatTests.{IsFoundFirst, passed_first, stopped_first}
use Rattle.debug_place.proofs.looks.first_within.Goals.{in-Some, in_default}
use Rattle.debug_place.proofs.looks.first_within.Goals as goal

pub loop-core-preserved : goal.loop-core-preserved
loop-core-preserved g c =
    let a = c.args.index.now in
    let hits = g.S.Stops.hits c.args.stops.now in
    let line = c.args.timeline.now in
    let core = c.loop-core.core in
    let first = c.counts_within-least.result.0 in
    let last = c.counts_within-least.result.1 in
    let behind = stops_behind hits a.which a.recording core in
    let at = stops_on hits a.which a.recording c.args.low.now c.args.high.now line in
    elim c.match-first_count.branch [
      | in-Some w ↦
          subst (λ (n : ℕ).
          IsFoundFirst at line (core + 1) c.args.from c.args.past n c.match-first_count.found)
          (sym w.past-is)
          (subst (λ (found : Option ℕ).
          IsFoundFirst at line (core + 1) c.args.from c.args.past w.seat-past.result found)
          (sym w.found-is)
          (stopped_first hits a.which a.recording c.args.low.now c.args.high.now line core
          c.args.from c.args.past c.loop-core.past
          first last c.loop-core.found c.requires.within c.loop-core.invariant c.requires.past
          c.counts_within-least.ensures w.in-Some.count w.seat-past.result w.seat-past.ensures
          (subst (λ (found : Option ℕ). FirstIn behind first last found)
          w.in-Some.is c.first_count.ensures)))
      | in_default w ↦
          subst (λ (n : ℕ).
          IsFoundFirst at line (core + 1) c.args.from c.args.past n c.match-first_count.found)
          (sym w.past-is)
          (subst (λ (found : Option ℕ).
          IsFoundFirst at line (core + 1) c.args.from c.args.past c.loop-core.past found)
          (sym w.found-is)
          (passed_first hits a.which a.recording c.args.low.now c.args.high.now line core
          c.args.from c.args.past c.loop-core.past
          first last c.loop-core.found c.requires.within c.loop-core.invariant c.requires.past
          c.counts_within-least.ensures
          (subst (λ (found : Option ℕ). FirstIn behind first last found)
          w.in_default.is c.first_count.ensures)))
    ]
