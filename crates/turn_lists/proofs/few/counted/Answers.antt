use Rattle.std.proofs.Common.{◌≡◌, ◌∙◌, sym, get_or, arith, true, false}
use Rattle.turn_lists.specs.Few.{had_last}
use Rattle.turn_lists.specs.declared.actor.Actor.TheVariants.{Core}
use Rattle.turn_lists.specs.declared.actor.Turn.{Turn}
use Rattle.turn_lists.proofs.ListCounts.{counted_step}
use Rattle.turn_lists.proofs.few.counted.Goals as goal
use Rattle.turn_lists.proofs.few.counted.Goals.{then-not-had_last, else-not-had_last}

no_turn : Turn
no_turn = record { actor = Core 0; count = 0 }

pub loop-place-preserved : goal.loop-place-preserved
unfolding no_turn
loop-place-preserved c =
    let gs = c.args.greatest.now in
    let row = c.args.row.now in
    let i = c.loop-place.place in
    let on = counted_step gs row c.args.last c.loop-place.count c.if-not-had_last.count i no_turn c.loop-place-test.true
    c.requires.long in
    let low = c.loop-place.invariant.1 in
    elim c.if-not-had_last.branch [
      | then-not-had_last w ↦
          let had : had_last c.args.last (get_or gs i no_turn).actor ≡ false =
          sym c.had_last.ensures ∙ w.if-not-had_last.true in
          let is = w.count-is ∙ w.min-count.ensures in
          (on (rw had is) ∙ c.loop-place.invariant.0, omega (arith, is))
      | else-not-had_last w ↦
          let had : had_last c.args.last (get_or gs i no_turn).actor ≡ true =
          sym c.had_last.ensures ∙ w.if-not-had_last.false in
          (on (rw had w.count-is) ∙ c.loop-place.invariant.0, omega (arith, w.count-is, low))
    ]
