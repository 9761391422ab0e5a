use Rattle.std.proofs.Common.{◌≡◌, replicate, []}
use Rattle.cut_moves.proofs.seats.no_seats.Given as goal

abbrev pub invariant-loop-core : goal.invariant-loop-core
invariant-loop-core l = l.seats.items ≡ replicate l.core []
