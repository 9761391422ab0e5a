use Rattle.std.proofs.Common.{◌≤◌, ◌*◌}
use Rattle.cut_moves.proofs.by_rounds.places_in.Given as goal

abbrev pub invariant-loop-core : goal.invariant-loop-core
invariant-loop-core l = l.places ≤ l.core * 4294967295
