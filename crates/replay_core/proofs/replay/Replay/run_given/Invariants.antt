-- the order and the replay have come along a front of the low order
use Rattle.std.proofs.Common.{ℕ, List}
use Rattle.replay_core.specs.Plans.{plan_of}
use Rattle.replay_core.specs.Play.{given_by}
use Rattle.replay_core.specs.Tallies.{count_of}
use Rattle.replay_core.proofs.Low.{left}
use Rattle.replay_core.proofs.LowRuns.{Together}
use Rattle.replay_core.proofs.replay.Replay.run_given.Given as goal

abbrev pub invariant-loop-core : goal.invariant-loop-core
invariant-loop-core l =
    (front : List ℕ) × Together (given_by l.values) (plan_of l.fn.which l.recording) front l.order l.replay

abbrev pub decreases-loop-core : goal.decreases-loop-core
decreases-loop-core l = left l.order.plan.totals (count_of l.order.counts) 0
