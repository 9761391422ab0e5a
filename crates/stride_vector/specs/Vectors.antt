-- The edges of a strided vector between two cores.
use Rattle.std.specs.Prelude.{ℕ, ◌≡◌, ◌+◌, ◌-◌, ◌*◌, ◌<◌, ◌≤◌, ◌^◌, List, map, length, slice_index_or}
use Rattle.std.specs.List.{range_with_len}
use Rattle.stride_vector.specs.declared.StrideVector.{StrideVector}

-- position k: a count of the source, and the count of the target that it comes before
abbrev pub position_of : StrideVector → ℕ → ℕ × ℕ
position_of v k = (v.a0 + k * v.sa, v.b0 + k * v.sb)

-- all positions, in their order
abbrev pub edges_of : StrideVector → List (ℕ × ℕ)
edges_of v = map (position_of v) (range_with_len 0 v.n)

abbrev pub last_of : StrideVector → ℕ × ℕ
last_of v = position_of v (v.n - 1)

-- what each call needs: a position, strides between positions, and counts that fit
pub record IsVector (v : StrideVector) : Type 0 where
  pub some : 1 ≤ v.n
  pub source_rises : 1 < v.n → 1 ≤ v.sa
  pub target_rises : 1 < v.n → 1 ≤ v.sb
  pub source_fits : (last_of v).0 < 2 ^ 32
  pub target_fits : (last_of v).1 < 2 ^ 32

-- the list of the edges has each position at its place
abbrev pub EdgesPlaced : Type 0
EdgesPlaced = (v : StrideVector) → (length (edges_of v) ≡ v.n)
    × ((k : ℕ) (d : ℕ × ℕ) → k < v.n → slice_index_or (edges_of v) k d ≡ position_of v k)

-- both counts rise from each position to the next
abbrev pub PositionsRise : Type 0
PositionsRise = (v : StrideVector) (k m : ℕ) → IsVector v → k < m → m < v.n →
    ((position_of v k).0 < (position_of v m).0) × ((position_of v k).1 < (position_of v m).1)
