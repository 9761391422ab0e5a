use Rattle.std.proofs.Common.{◌∙◌, ap, ◌++◌, ◌∷◌, [], ℕ, List}
use Rattle.turn_lists.specs.declared.actor.Actor.TheVariants.{Core}
use Rattle.turn_lists.proofs.ListCounts.{ones_more}
use Rattle.turn_lists.proofs.few.first_row.Goals as goal

pub loop-turn-preserved : goal.loop-turn-preserved
loop-turn-preserved c =
    c.in_ok-push.ensures.ok ∙ ap (λ (ns : List ℕ). ns ++ 1 ∷ []) c.loop-turn.invariant
    ∙ ones_more c.args.greatest.now c.loop-turn._turn-index (record { actor = Core 0; count = 0 }) c.loop-turn-test.true
