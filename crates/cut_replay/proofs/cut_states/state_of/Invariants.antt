use Rattle.std.proofs.Common.{◌<◌, length}
use Rattle.replay_core.specs.Orders.{counts_in}
use Rattle.replay_core.proofs.Low.{left}
use Rattle.cut_replay.specs.Dues.{IsOnTheWay}
use Rattle.cut_replay.proofs.cut_states.state_of.Given as goal

-- a replay order within the cut was played
abbrev pub invariant-loop-core : goal.invariant-loop-core
invariant-loop-core l = record {
  way : IsOnTheWay l.audited.which l.audited.recording l.cut l.replay;
  last : l.last < length l.replay.plan.totals;
}

abbrev pub decreases-loop-core : goal.decreases-loop-core
decreases-loop-core l = left l.replay.plan.totals (counts_in l.replay.state) 0
