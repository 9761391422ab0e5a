use Rattle.std.proofs.Common.{◌≡◌, ◌∙◌, ◌<◌, ◌≤◌, ap, sym, subst, ℕ, ◌+◌, ◌-◌, ◌++◌, take, drop, get_or, arith}
use Rattle.std.proofs.Common.{List, true, false, length}
use Rattle.turn_lists.specs.Actors.{is_same}
use Rattle.turn_lists.specs.declared.actor.Actor.{Actor}
use Rattle.turn_lists.specs.declared.actor.Actor.TheVariants.{Core}
use Rattle.turn_policies.specs.Ranked.{lowered}
use Rattle.turn_policies.proofs.ChangedRanks.{lower_end, lower_over, lower_past}
use Rattle.turn_policies.proofs.ranked.lower.Goals as goal
use Rattle.turn_policies.proofs.ranked.lower.Goals.{then-is, else-is}

pub loop-place-preserved : goal.loop-place-preserved
loop-place-preserved c =
    let order = c.loop-place.order in
    let new = c.if-is.order in
    let j = c.loop-place.place in
    let some = c.loop-place.auto.place in
    let less = c.loop-place-test.true in
    let long = c.loop-place.auto.order in
    let within : j < length order = omega (arith, less, long) in
    let next : j ≡ j - 1 + 1 = omega (arith, some) in
    let here : j ≡ j + 1 - 1 = omega arith in
    let done : take j new ++ lowered c.args.actor (drop j new) ≡ lowered c.args.actor c.args.order.now =
    elim c.if-is.branch [
      | then-is w ↦
          let same : is_same (get_or order (j - 1) (Core 0)) c.args.actor ≡ true =
          sym c.is.ensures ∙ w.if-is.true in
          sym (lower_past c.args.actor order new (j - 1) j (Core 0) next within same w.order-is)
          ∙ c.loop-place.invariant
      | else-is w ↦
          let other : is_same (get_or order (j - 1) (Core 0)) c.args.actor ≡ false =
          sym c.is.ensures ∙ w.if-is.false in
          ap (λ (zs : List Actor). take j zs ++ lowered c.args.actor (drop j zs)) w.order-is
          ∙ sym (lower_over c.args.actor order (j - 1) j (Core 0) next within other)
          ∙ c.loop-place.invariant
    ] in
    subst (λ (n : ℕ). take n new ++ lowered c.args.actor (drop n new) ≡ lowered c.args.actor c.args.order.now) here done

pub returns : goal.returns
returns c =
    let some = c.loop-place.auto.place in
    let past = c.loop-place-test.false in
    sym (lower_end c.args.actor c.loop-place.order (c.loop-place.place - 1) (omega (arith, some, past)))
    ∙ c.loop-place.invariant
