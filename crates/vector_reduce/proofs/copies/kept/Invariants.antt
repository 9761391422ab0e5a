use Rattle.std.proofs.Common.{◌≡◌, take}
use Rattle.vector_reduce.specs.Kept.{kept}
use Rattle.vector_reduce.proofs.copies.kept.Given as goal

abbrev pub invariant-loop-place : goal.invariant-loop-place
invariant-loop-place l = l.list ≡ kept l.vectors (take l.place l.stays)
