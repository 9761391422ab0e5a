use Rattle.replay_core.proofs.Low.{left}
use Rattle.replay_core.specs.Tallies.{count_of}
use Rattle.replay_audit.proofs.LowWalk.{Walking}
use Rattle.replay_audit.proofs.whole_order.WholeOrder.of.Given as goal

-- the instructions of a front of the low order were noted
abbrev pub invariant-loop-core : goal.invariant-loop-core
invariant-loop-core l = Walking l.fn.which l.recording l.order.items l.tally l.clocks

abbrev pub decreases-loop-core : goal.decreases-loop-core
decreases-loop-core l = left l.tally.plan.totals (count_of l.tally.counts) 0
