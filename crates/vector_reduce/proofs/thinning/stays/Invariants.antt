use Rattle.std.proofs.Common.{◌≡◌, length}
use Rattle.vector_reduce.proofs.Trials.{SoFar}
use Rattle.vector_reduce.proofs.thinning.stays.Given as goal

abbrev pub invariant-loop-number : goal.invariant-loop-number
invariant-loop-number l = record {
  number : length l.stays.items ≡ l.number;
  so_far : SoFar l.arrivals.vectors l.stays.items;
}
