use Rattle.std.proofs.Common.{◌∙◌, ap}
use Rattle.turn_lists.specs.declared.actor.Actor.TheVariants.{Core}
use Rattle.turn_lists.specs.declared.actor.Turn.{Turn}
use Rattle.turn_policies.proofs.ChangedRanks.{changed_at, changed_on}
use Rattle.hunt_runs.specs.Counted.{picked_once}
use Rattle.hunt_runs.proofs.counted.count_pick.Goals as goal

pub loop-place-preserved : goal.loop-place-preserved
loop-place-preserved c =
    let f = picked_once c.args.actor in
    let xs = c.args.picks.now in
    let i = c.loop-place.place in
    let d : Turn = record { actor = Core 0; count = 0 } in
    let within = c.loop-place-test.true in
    let made = c.picked_once.ensures ∙ ap f (changed_at f xs i d within c.loop-place.picks d c.loop-place.invariant) in
    changed_on f xs i d within c.loop-place.picks c.picked_once.result c.loop-place.invariant made
