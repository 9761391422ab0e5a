use Rattle.std.proofs.Common.{◌≢◌, ℕ, ◌<◌}
use Rattle.vector_reduce.specs.Cuts.{IsClosed, counts_in}
use Rattle.vector_reduce.specs.Vectors.{edges_in, vector_at}
use Rattle.vector_reduce.proofs.checking.is_closed_under_others.Given as goal

abbrev pub invariant-loop-other : goal.invariant-loop-other
invariant-loop-other l = (j : ℕ) → j < l.other → j ≢ l.number →
    IsClosed (edges_in (vector_at l.vectors j)) (counts_in l.cut)
