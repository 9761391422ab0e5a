use Rattle.vector_reduce.proofs.ClosingCuts.{Trying}
use Rattle.vector_reduce.proofs.arrivals.Arrivals.tried.Given as goal

abbrev pub invariant-loop-position : goal.invariant-loop-position
invariant-loop-position l = Trying l.self l.stays l.vector l.position l.closing
