use Rattle.gdb_moves.specs.Stopping.{stopping_of}
use Rattle.gdb_moves.proofs.RangeLemmas.{IsStepping}
use Rattle.gdb_moves.proofs.hearing.Hearing.step_in.Given as goal

-- the steps so far were taken, and the core went on behind each
abbrev pub invariant-loop-taken : goal.invariant-loop-taken
invariant-loop-taken l = IsStepping l.range (stopping_of l.self) l.core l.fn.place l.taken l.place
