use Rattle.std.proofs.Common.{◌-◌}
use Rattle.core_runs.specs.Runs.{stands}
use Rattle.core_runs.proofs.RunSteps.{GoesOnTo}
use Rattle.core_runs.proofs.running.follow.Given as goal

-- what has retired so far
abbrev pub invariant-loop-head : goal.invariant-loop-head
invariant-loop-head g l =
    GoesOnTo g.R.Reach.told g.R.Reach.words g.R.Reach.accepts l.fn.program l.fn.until
    (stands l.fn.head l.fn.registers l.fn.reach l.fn.watch) (stands l.head l.registers l.reach l.watch)

abbrev pub decreases-loop-head : goal.decreases-loop-head
decreases-loop-head g l = l.until - l.head.count
