use Rattle.vector_reduce.proofs.Next.{Keeps}
use Rattle.vector_reduce.proofs.copies.kept_lists.Given as goal

abbrev pub invariant-loop-vectors : goal.invariant-loop-vectors
invariant-loop-vectors l = Keeps l.lists l.stays l.vectors-index l.left l.rest
