use Rattle.gdb_moves.specs.Stopping.{stopping_of}
use Rattle.gdb_moves.proofs.BackLemmas.{IsTurningBack}
use Rattle.gdb_moves.proofs.hearing.Hearing.go_back_with.Given as goal

-- the turns so far were taken, and nothing stopped them
abbrev pub invariant-loop-number : goal.invariant-loop-number
invariant-loop-number l = IsTurningBack (stopping_of l.self) l.cores l.fn.place l.at l.number l.place
