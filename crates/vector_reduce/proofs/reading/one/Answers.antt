use Rattle.std.proofs.Common.{ℕ, List, subst, sym, ◌≤◌, length}
use Rattle.rtr_types.specs.declared.TheConstants.{CORES_MAX}
use Rattle.vector_reduce.proofs.Parts.{few_counts}
use Rattle.vector_reduce.proofs.reading.one.Goals as goal

pub cut_of-cut-requires : goal.cut_of-cut-requires
cut_of-cut-requires c =
    subst (λ (l : List ℕ). length l ≤ CORES_MAX) (sym c.as_slice.ensures)
    (few_counts c.args.totals.now _ c.in_ok-counts.counts c.in_ok-counts.rest.now c.requires c.in_ok-counts.ensures)
