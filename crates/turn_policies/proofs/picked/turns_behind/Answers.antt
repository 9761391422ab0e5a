use Rattle.std.proofs.Common.{◌∙◌, sym}
use Rattle.turn_lists.specs.declared.actor.Actor.TheVariants.{Core}
use Rattle.turn_policies.proofs.PickedAgain.{none_behind, one_in, one_out}
use Rattle.turn_policies.proofs.picked.turns_behind.Goals as goal
use Rattle.turn_policies.proofs.picked.turns_behind.Goals.{then-takes_in, else-takes_in+in_ok-push}

pub loop-actor-preserved : goal.loop-actor-preserved
loop-actor-preserved c =
    let rest = c.args.rest.now in
    let i = c.loop-actor.actor-index in
    let within = c.loop-actor-test.true in
    elim c.if-takes_in.branch [
      | then-takes_in w ↦
          rw w.turns-is (sym (one_in c.loop-actor.turns c.loop-actor.last c.if-takes_in.last rest i (Core 0) within
          (sym c.takes_in.ensures ∙ w.if-takes_in.true) w.last-is) ∙ c.loop-actor.invariant)
      | else-takes_in+in_ok-push w ↦
          rw (w.turns-is, w.in_ok-push.ensures.ok, w.last-is, w.one_pick-last.ensures) (sym (one_out c.loop-actor.turns
          c.loop-actor.last rest i (Core 0) within (sym c.takes_in.ensures ∙ w.if-takes_in.false))
          ∙ c.loop-actor.invariant)
    ]

pub returns : goal.returns
returns c =
    c.in_ok-push-2.ensures.ok
    ∙ sym (none_behind c.loop-actor.turns c.loop-actor.last c.args.rest.now c.loop-actor.actor-index
    c.loop-actor-test.false)
    ∙ c.loop-actor.invariant
