use Rattle.vector_reduce.proofs.GatheredEdges.{Gathers}
use Rattle.vector_reduce.proofs.arrivals.arrivals_into.Given as goal

abbrev pub invariant-loop-number : goal.invariant-loop-number
invariant-loop-number l = Gathers l.vectors l.core l.number l.list.items
