use Rattle.std.proofs.Common.{◌≡◌, ℕ, ◌<◌, length, get_or}
use Rattle.vector_reduce.specs.Showing.{IsFormed, IsLeastShown, no_shown}
use Rattle.vector_reduce.specs.Vectors.{others_of, vector_at}
use Rattle.vector_reduce.proofs.Trials.{AllStay}
use Rattle.vector_reduce.proofs.thinning.shown.Given as goal

abbrev pub invariant-loop-number : goal.invariant-loop-number
invariant-loop-number l = record {
  stays : AllStay l.arrivals.vectors l.stays.items l.number;
  number : length l.shown ≡ l.number;
  least : (k : ℕ) → k < l.number →
      IsLeastShown (others_of l.arrivals.vectors k) (vector_at l.arrivals.vectors k) (get_or l.shown k no_shown);
  formed : (k : ℕ) → k < l.number → IsFormed (length l.arrivals.lists) (get_or l.shown k no_shown);
}
