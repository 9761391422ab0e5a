use Rattle.std.proofs.Common.{◌-◌}
use Rattle.cut_moves.proofs.StepsBack.{IsAsking}
use Rattle.cut_moves.proofs.moves.free_of.Given as goal

-- the first instructions so far are free of it, and those above the least that isn't known are not
abbrev pub invariant-loop-free : goal.invariant-loop-free
invariant-loop-free l = IsAsking l.audited.which l.audited.recording l.at l.core l.most l.free l.least

abbrev pub decreases-loop-free : goal.decreases-loop-free
decreases-loop-free l = l.least - l.free
