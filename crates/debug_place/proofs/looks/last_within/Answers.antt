use Rattle.std.proofs.Common.{◌+◌, ℕ, subst, sym}
use Rattle.std.specs.Prelude.{Option}
use Rattle.debug_place.specs.Hits.{LastIn, stops_behind, stops_on}
use Rattle.debug_place.proofs.SeatTests.{IsFoundLast, passed_last, stopped_last}
use Rattle.debug_place.proofs.looks.last_within.Goals.{in-Some, in_default}
use Rattle.debug_place.proofs.looks.last_within.Goals as goal

pub loop-core-preserved : goal.loop-core-preserved
loop-core-preserved g c =
    let a = c.args.index.now in
    let hits = g.S.Stops.hits c.args.stops.now in
    let line = c.args.timeline.now in
    let core = c.loop-core.core in
    let first = c.counts_within-least.result.0 in
    let last = c.counts_within-least.result.1 in
    let behind = stops_behind hits a.which a.recording core in
    let at = stops_on hits a.which a.recording c.args.low.now c.args.high.now line in
    elim c.match-last_count.branch [
      | in-Some w ↦
          subst (λ (n : ℕ).
          IsFoundLast at line (core + 1) c.args.from c.args.past n c.match-last_count.found)
          (sym w.from-is)
          (subst (λ (found : Option ℕ).
          IsFoundLast at line (core + 1) c.args.from c.args.past (w.seat-number.result + 1) found)
          (sym w.found-is)
          (stopped_last hits a.which a.recording c.args.low.now c.args.high.now line core
          c.args.from c.args.past c.loop-core.from
          first last c.loop-core.found c.requires.within c.loop-core.invariant c.requires.past
          c.counts_within-least.ensures w.in-Some.count w.seat-number.result w.seat-number.ensures
          (subst (λ (found : Option ℕ). LastIn behind first last found)
          w.in-Some.is c.last_count.ensures)))
      | in_default w ↦
          subst (λ (n : ℕ).
          IsFoundLast at line (core + 1) c.args.from c.args.past n c.match-last_count.found)
          (sym w.from-is)
          (subst (λ (found : Option ℕ).
          IsFoundLast at line (core + 1) c.args.from c.args.past c.loop-core.from found)
          (sym w.found-is)
          (passed_last hits a.which a.recording c.args.low.now c.args.high.now line core
          c.args.from c.args.past c.loop-core.from
          first last c.loop-core.found c.requires.within c.loop-core.invariant c.requires.past
          c.counts_within-least.ensures
          (subst (λ (found : Option ℕ). LastIn behind first last found)
          w.in_default.is c.last_count.ensures)))
    ]
