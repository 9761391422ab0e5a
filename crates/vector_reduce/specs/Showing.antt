-- Rule: what shows a vector to be needed: IsShown
-- What shows that a vector is needed.
use Rattle.std.specs.Prelude.{◌≡◌, ℕ, ◌<◌, List, [], length, slice_index_or, Option, Some, None}
use Rattle.rtr_types.specs.declared.TheConstants.{CORES_MAX}
use Rattle.clock_core.specs.Order.{Before, Among}
use Rattle.vector_reduce.specs.declared.pair_vector.PairVector.{PairVector}
use Rattle.vector_reduce.specs.declared.thinned.Shown.{Shown}
use Rattle.vector_reduce.specs.declared.thinned.Thinned.{Thinned}
use Rattle.vector_reduce.specs.Cuts.{counts_in, Holds, IsClosed, IsLeastCut}
use Rattle.vector_reduce.specs.Vectors.{edge_at, edges_of_all, vector_at, others_of, vectors_of}

-- the vector has an edge with this number, and the cut is closed under the others and has this edge's target, but not
-- its source
pub record IsShown (others : List PairVector) (v : PairVector) (s : Shown) : Type 0 where
  pub within : s.edge < v.vector.n
  pub closed : IsClosed (edges_of_all others) (counts_in s.cut)
  pub target : Holds (counts_in s.cut) (edge_at v s.edge).to
  pub source : Holds (counts_in s.cut) (edge_at v s.edge).from → ⊥

-- the edge is the first that the others don't imply, and the cut the least closed one with its target
pub record IsLeastShown (others : List PairVector) (v : PairVector) (s : Shown) : Type 0 where
  pub shown : IsShown others v s
  pub first : (k : ℕ) → k < s.edge → Before (Among (edges_of_all others)) (edge_at v k).from (edge_at v k).to
  pub least : IsLeastCut (edges_of_all others) (edge_at v s.edge).to (counts_in s.cut)

-- what stands past the end
abbrev pub no_shown : Shown
no_shown = record { edge = 0; cut = record { cores = 0; counts = [] } }

-- the vector with a number, counted from 0, is shown to be needed among these, with one for each
abbrev pub IsShownAmong : List PairVector → List Shown → ℕ → Type 0
IsShownAmong vectors shown k = IsShown (others_of vectors k) (vector_at vectors k) (slice_index_or shown k no_shown)

-- the first that isn't, or none where all are
abbrev pub FirstNotShown : List PairVector → List Shown → Option ℕ → Type 0
FirstNotShown vectors shown None = (k : ℕ) → k < length vectors → IsShownAmong vectors shown k
FirstNotShown vectors shown (Some number) =
    (number < length vectors)
    × (IsShownAmong vectors shown number → ⊥)
    × ((k : ℕ) → k < number → IsShownAmong vectors shown k)

-- for each the first of its edges that the others don't imply, and the least cut
pub record AreLeastShown (vectors : List PairVector) (shown : List Shown) : Type 0 where
  pub all : length shown ≡ length vectors
  pub each : (k : ℕ) → k < length vectors →
      IsLeastShown (others_of vectors k) (vector_at vectors k) (slice_index_or shown k no_shown)

-- a cut of so many cores, in as many places as there may be cores
pub record IsFormed (cores : ℕ) (s : Shown) : Type 0 where
  pub cores_is : s.cut.cores ≡ cores
  pub places : length s.cut.counts ≡ CORES_MAX

abbrev pub AreFormed : ℕ → List Shown → Type 0
AreFormed cores shown = (k : ℕ) → k < length shown → IsFormed cores (slice_index_or shown k no_shown)

-- ---- in a thinned recording

abbrev pub IsShownAt : Thinned → ℕ → Type 0
IsShownAt t k = IsShownAmong (vectors_of t.recording) t.shown k

abbrev pub EachShown : Thinned → Type 0
EachShown t = (k : ℕ) → k < length (vectors_of t.recording) → IsShownAt t k

abbrev pub EachLeastShown : Thinned → Type 0
EachLeastShown t = AreLeastShown (vectors_of t.recording) t.shown
