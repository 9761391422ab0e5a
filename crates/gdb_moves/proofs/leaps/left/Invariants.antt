use Rattle.gdb_moves.proofs.Gathered.{IsLeftTo}
use Rattle.gdb_moves.proofs.leaps.left.Given as goal

abbrev pub invariant-loop-core : goal.invariant-loop-core
invariant-loop-core l = IsLeftTo l.cores l.place l.number l.core l.cut
