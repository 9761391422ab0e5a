use Rattle.std.proofs.Common.{length}
use Rattle.vector_reduce.proofs.ClosingCuts.{Going, to_go}
use Rattle.vector_reduce.proofs.arrivals.Arrivals.close.Given as goal

abbrev pub invariant-loop-core : goal.invariant-loop-core
invariant-loop-core l = Going l.self l.stays l.fn.at l.closing

abbrev pub decreases-loop-core : goal.decreases-loop-core
decreases-loop-core l = to_go l.self.lists l.closing (length l.self.lists)
