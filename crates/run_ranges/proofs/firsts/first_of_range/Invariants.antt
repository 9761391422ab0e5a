use Rattle.std.proofs.Common.{◌-◌, ◌≤◌}
use Rattle.run_ranges.specs.Firsts.{NoneBreaks}
use Rattle.run_ranges.proofs.firsts.first_of_range.Given as goal

-- none so far
abbrev pub invariant-loop-at : goal.invariant-loop-at
invariant-loop-at g l = (l.fn.from ≤ l.at) × (l.at ≤ l.to) × NoneBreaks (g.T.Trial.breaks l.trial) l.fn.from l.at

abbrev pub decreases-loop-at : goal.decreases-loop-at
decreases-loop-at g l = l.to - l.at
