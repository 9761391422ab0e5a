use Rattle.std.proofs.Common.{List, ap, inl, inr, length, ◌∙◌, arith}
use Rattle.std.specs.Prelude.{sum_by}
use Rattle.stride_vector.specs.declared.StrideVector.{StrideVector}
use Rattle.vector_reduce.proofs.ThinnedLog.{few_enough, too_many}
use Rattle.vector_reduce.proofs.KeptVectors.{vectors_fit}
use Rattle.vector_reduce.proofs.thinning.refused.Goals as goal
use Rattle.vector_reduce.proofs.thinning.refused.Goals.{
  then-vectors-gt-VECTORS_MAX-via-then-vectors-gt-VECTORS_MAX,
  then-vectors-gt-VECTORS_MAX-via-else-vectors-gt-VECTORS_MAX+then-edges-gt-POSITIONS_MAX,
}

pub item_count-vectors-requires : goal.item_count-vectors-requires
item_count-vectors-requires c = let fit = vectors_fit c.args.recording.now c.requires in
    rw c.as_slice.ensures (omega (arith, fit))

pub returns-then-vectors-gt-VECTORS_MAX : goal.returns-then-vectors-gt-VECTORS_MAX
returns-then-vectors-gt-VECTORS_MAX c =
    too_many c.args.recording.now c.item_count-vectors.result c.edge_count-edges.result c.requires
    (c.item_count-vectors.ensures ∙ ap (sum_by (λ (l : List StrideVector). length l)) c.as_slice.ensures)
    c.edge_count-edges.ensures.listed (elim c.then-vectors-gt-VECTORS_MAX.branch [
      | then-vectors-gt-VECTORS_MAX-via-then-vectors-gt-VECTORS_MAX w ↦
          inl (omega (arith, w.if-vectors-gt-VECTORS_MAX.true))
      | then-vectors-gt-VECTORS_MAX-via-else-vectors-gt-VECTORS_MAX+then-edges-gt-POSITIONS_MAX w ↦
          inr (omega (arith, w.if-edges-gt-POSITIONS_MAX.true))
    ])

pub returns : goal.returns
returns c =
    few_enough c.args.recording.now c.item_count-vectors.result c.edge_count-edges.result c.requires
    (c.item_count-vectors.ensures ∙ ap (sum_by (λ (l : List StrideVector). length l)) c.as_slice.ensures)
    c.edge_count-edges.ensures.listed
    (omega (arith, c.if-vectors-gt-VECTORS_MAX.false)) (omega (arith, c.if-edges-gt-POSITIONS_MAX.false))
