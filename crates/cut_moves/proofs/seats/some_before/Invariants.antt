use Rattle.std.proofs.Common.{◌-◌}
use Rattle.cut_moves.proofs.SeatHalves.{IsHalved}
use Rattle.cut_moves.proofs.seats.some_before.Given as goal

-- the first ones so far come before the number, and those behind that aren't known don't
abbrev pub invariant-loop-some : goal.invariant-loop-some
invariant-loop-some l = IsHalved l.seats l.low l.high l.number l.some l.past

abbrev pub decreases-loop-some : goal.decreases-loop-some
decreases-loop-some l = l.past - l.some
