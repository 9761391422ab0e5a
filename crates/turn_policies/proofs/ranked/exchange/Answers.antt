use Rattle.std.proofs.Common.{◌≡◌, ◌∙◌, ap}
use Rattle.turn_lists.specs.declared.actor.Actor.TheVariants.{Core}
use Rattle.turn_policies.specs.Ranked.{exchanged_one}
use Rattle.turn_policies.proofs.ChangedRanks.{changed_at, changed_on}
use Rattle.turn_policies.proofs.ranked.exchange.Goals as goal

pub loop-place-preserved : goal.loop-place-preserved
loop-place-preserved c =
    let f = exchanged_one c.args.one c.args.other in
    let xs = c.args.order.now in
    let i = c.loop-place.place in
    let within = c.loop-place-test.true in
    let made = c.exchanged_one.ensures
    ∙ ap f (changed_at f xs i (Core 0) within c.loop-place.order (Core 0) c.loop-place.invariant) in
    changed_on f xs i (Core 0) within c.loop-place.order c.exchanged_one.result c.loop-place.invariant made
