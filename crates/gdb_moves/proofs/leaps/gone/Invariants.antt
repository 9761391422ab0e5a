use Rattle.gdb_moves.proofs.Gathered.{IsGathered}
use Rattle.gdb_moves.proofs.leaps.gone.Given as goal

abbrev pub invariant-loop-core : goal.invariant-loop-core
invariant-loop-core l = IsGathered l.cores l.place l.number l.core l.counts
