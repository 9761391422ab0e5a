use Rattle.std.proofs.Common.{◌-◌}
use Rattle.cut_index.proofs.WritesHeld.{IsHalved}
use Rattle.cut_index.proofs.writes.left_behind.Given as goal

-- the first writes so far are held, and none behind those that aren't known is
abbrev pub invariant-loop-some : goal.invariant-loop-some
invariant-loop-some l = IsHalved l.cut l.writes l.some l.past

abbrev pub decreases-loop-some : goal.decreases-loop-some
decreases-loop-some l = l.past - l.some
