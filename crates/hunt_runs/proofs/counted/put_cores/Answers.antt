use Rattle.turn_lists.specs.declared.actor.Actor.TheVariants.{Core}
use Rattle.hunt_runs.proofs.PickCounts.{puts_more}
use Rattle.hunt_runs.proofs.counted.put_cores.Goals as goal

pub loop-core-preserved : goal.loop-core-preserved
loop-core-preserved c =
    puts_more (λ k. Core k) c.loop-core.core c.args.picks.now.items c.loop-core.picks.items _ c.loop-core.invariant
    c.in_ok-push.ensures.items
