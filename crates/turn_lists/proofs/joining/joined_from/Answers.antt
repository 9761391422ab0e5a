use Rattle.std.proofs.Common.{◌∙◌, sym, ap, ℕ}
use Rattle.turn_lists.specs.declared.actor.Actor.TheVariants.{Core}
use Rattle.turn_lists.specs.declared.actor.Turn.{Turn}
use Rattle.turn_lists.proofs.TurnChanges.{all_done, one_done, one_joined}
use Rattle.turn_lists.proofs.joining.joined_from.Goals as goal
use Rattle.turn_lists.proofs.joining.joined_from.Goals.{then-is, else-is+in_ok-push}

no_turn : Turn
no_turn = record { actor = Core 0; count = 0 }

pub loop-turn-preserved : goal.loop-turn-preserved
unfolding no_turn
loop-turn-preserved c =
    let rest = c.args.rest.now in
    let i = c.loop-turn.turn-index in
    let within = c.loop-turn-test.true in
    elim c.if-is.branch [
      | then-is w ↦
          let last = w.last-is ∙ ap (λ (n : ℕ). record c.loop-turn.last { count = n }) w.together.ensures in
          rw w.list-is (sym (one_joined c.loop-turn.list c.loop-turn.last c.if-is.last rest i no_turn within
          (sym c.is.ensures ∙ w.if-is.true) last) ∙ c.loop-turn.invariant)
      | else-is+in_ok-push w ↦
          rw (w.list-is, w.in_ok-push.ensures.ok, w.last-is) (sym (one_done c.loop-turn.list c.loop-turn.last rest i
          no_turn within (sym c.is.ensures ∙ w.if-is.false)) ∙ c.loop-turn.invariant)
    ]

pub returns : goal.returns
returns c =
    let pushed = c.in_ok-push-2.ensures.ok in
    pushed
    ∙ sym (all_done c.loop-turn.list c.loop-turn.last c.args.rest.now c.loop-turn.turn-index c.loop-turn-test.false)
    ∙ c.loop-turn.invariant
