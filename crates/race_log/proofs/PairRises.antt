-- The counts of a pair's edges rise, by edges as by the positions of vectors, and lie within the totals.
use Rattle.std.proofs.Common.{◌≡◌, ℕ, zero, suc, ◌-◌, ◌^◌, ◌<◌, ◌≤◌, List, [], ◌∷◌, length, get_or, sym, subst, ◌∙◌}
use Rattle.std.proofs.Common.{arith}
use Rattle.std.specs.List.{Contains, flat_map}
use Rattle.std.proofs.Math.Nat.{mul-le-mul_left}
use Rattle.stride_vector.specs.declared.StrideVector.{StrideVector}
use Rattle.stride_vector.specs.Vectors.{IsVector, position_of, edges_of, last_of}
use Rattle.stride_vector.proofs.Sources.{edges-placed}
use Rattle.rtr_types.specs.Turns.{StandInTurn, follow}
use Rattle.rtr_types.specs.PairEdges.{EdgeRises, EdgeStands}
use Rattle.race_log.specs.Validity.{VectorStands, AreVectors, end_of}
use Rattle.race_log.specs.Sources.{AreApart}
use Rattle.race_log.proofs.RisingSearch.{Rising, contains-flat, flat-contains}

-- an edge that is none
abbrev pub no_edge : ℕ × ℕ
no_edge = (0, 0)

-- a vector that is none
abbrev pub no_vector : StrideVector
no_vector = record { n = 0; a0 = 0; b0 = 0; sa = 0; sb = 0 }

-- ---- edges

-- a count that rises from each edge to the next is lowest at the first edge, and rises along the list
module _ (n : ℕ × ℕ → ℕ) (up : (last e : ℕ × ℕ) → EdgeRises last e → n last < n e) where
  counts-above : (last : ℕ × ℕ) (edges : List (ℕ × ℕ)) → StandInTurn EdgeRises follow last edges → (k : ℕ) →
      k < length edges → n last < n (get_or edges k no_edge)
  counts-above last [] h k below = absurd (omega arith)
  counts-above last (e ∷ edges) h zero below = up last e h.0
  counts-above last (e ∷ edges) h (suc k) below =
      let rest = counts-above e edges h.1 k (omega arith) in let first = up last e h.0 in omega arith

  counts-rise : (last : ℕ × ℕ) (edges : List (ℕ × ℕ)) → StandInTurn EdgeRises follow last edges →
      Rising n edges no_edge
  counts-rise last [] h i j before below = absurd (omega arith)
  counts-rise last (e ∷ edges) h i zero before below = absurd (omega arith)
  counts-rise last (e ∷ edges) h zero (suc j) before below = counts-above e edges h.1 j (omega arith)
  counts-rise last (e ∷ edges) h (suc i) (suc j) before below = counts-rise e edges h.1 i j (omega arith) (omega arith)

pub sources-rise : (last : ℕ × ℕ) (edges : List (ℕ × ℕ)) → StandInTurn EdgeRises follow last edges →
    Rising (λ e. e.0) edges no_edge
sources-rise = counts-rise (λ e. e.0) (λ last e h. h.source)

pub targets-rise : (last : ℕ × ℕ) (edges : List (ℕ × ℕ)) → StandInTurn EdgeRises follow last edges →
    Rising (λ e. e.1) edges no_edge
targets-rise = counts-rise (λ e. e.1) (λ last e h. h.target)

pub edge_stands_at : (most last : ℕ × ℕ) (edges : List (ℕ × ℕ)) → StandInTurn (EdgeStands most) follow last edges →
    (k : ℕ) → k < length edges →
    (before : ℕ × ℕ) × EdgeStands most before (get_or edges k no_edge)
edge_stands_at most last [] h k below = absurd (omega arith)
edge_stands_at most last (e ∷ edges) h zero below = (last, h.0)
edge_stands_at most last (e ∷ edges) h (suc k) below = edge_stands_at most e edges h.1 k (omega arith)

-- ---- vectors

pub is_vector : (most last : ℕ × ℕ) (v : StrideVector) → most.0 < 2 ^ 32 → most.1 < 2 ^ 32 → VectorStands most last v →
    IsVector v
is_vector most last v source target h =
    let a = h.source_most in
    let b = h.target_most in
    record {
      some = h.some;
      source_rises = h.source_stride;
      target_rises = h.target_stride;
      source_fits = omega arith;
      target_fits = omega arith;
    }

pub vector_stands_at : (most last : ℕ × ℕ) (vectors : List StrideVector) →
    StandInTurn (VectorStands most) end_of last vectors → (k : ℕ) (d : StrideVector) →
    k < length vectors → (before : ℕ × ℕ) × VectorStands most before (get_or vectors k d)
vector_stands_at most last [] h k d below = absurd (omega arith)
vector_stands_at most last (v ∷ vectors) h zero d below = (last, h.0)
vector_stands_at most last (v ∷ vectors) h (suc k) d below =
    vector_stands_at most (last_of v) vectors h.1 k d (omega arith)

-- a vector ends no lower than it begins
pub reaches : (v : StrideVector) → (v.a0 ≤ (last_of v).0) × (v.b0 ≤ (last_of v).1)
reaches v = (omega arith, omega arith)

vectors-above : (most last : ℕ × ℕ) (vectors : List StrideVector) →
    StandInTurn (VectorStands most) end_of last vectors → (k : ℕ) (d : StrideVector) →
    k < length vectors → (last.0 < (get_or vectors k d).a0) × (last.1 < (get_or vectors k d).b0)
vectors-above most last [] h k d below = absurd (omega arith)
vectors-above most last (v ∷ vectors) h zero d below = (h.0.source_rises, h.0.target_rises)
vectors-above most last (v ∷ vectors) h (suc k) d below =
    let rest = vectors-above most (last_of v) vectors h.1 k d (omega arith) in
    let a = h.0.source_rises in
    let b = h.0.target_rises in
    let up = reaches v in
    (omega arith, omega arith)

pub vectors-apart : (most last : ℕ × ℕ) (vectors : List StrideVector) →
    StandInTurn (VectorStands most) end_of last vectors → (i j : ℕ) (d : StrideVector) →
    i < j → j < length vectors →
    ((last_of (get_or vectors i d)).0 < (get_or vectors j d).a0) ×
    ((last_of (get_or vectors i d)).1 < (get_or vectors j d).b0)
vectors-apart most last [] h i j d before below = absurd (omega arith)
vectors-apart most last (v ∷ vectors) h i zero d before below = absurd (omega arith)
vectors-apart most last (v ∷ vectors) h zero (suc j) d before below =
    vectors-above most (last_of v) vectors h.1 j d (omega arith)
vectors-apart most last (v ∷ vectors) h (suc i) (suc j) d before below =
    vectors-apart most (last_of v) vectors h.1 i j d (omega arith) (omega arith)

pub are-apart : (most : ℕ × ℕ) (vectors : List StrideVector) → most.0 < 2 ^ 32 → most.1 < 2 ^ 32 →
    AreVectors most vectors → AreApart vectors
are-apart most vectors source target h = record {
  each = λ k d below. let at = vector_stands_at most (0, 0) vectors h k d below in
      is_vector most at.0 (get_or vectors k d) source target at.1;
  apart = λ i j d before below. (vectors-apart most (0, 0) vectors h i j d before below).1;
}

-- each position of a vector lies between its first and its last
pub position_between : (v : StrideVector) (m : ℕ) → m < v.n → (v.a0 ≤ (position_of v m).0) ×
    ((position_of v m).0 ≤ (last_of v).0)
    × (v.b0 ≤ (position_of v m).1) × ((position_of v m).1 ≤ (last_of v).1)
position_between v m below =
    let le : m ≤ v.n - 1 = omega arith in
    let a = mul-le-mul_left v.sa le in
    let b = mul-le-mul_left v.sb le in
    (omega arith, omega arith, omega arith, omega arith)

-- ---- the positions of vectors

-- position m of the vector at place k
pub record PositionAt (vectors : List StrideVector) (a b : ℕ) : Type 0 where
  pub k : ℕ
  pub m : ℕ
  pub within : k < length vectors
  pub below : m < (get_or vectors k no_vector).n
  pub is : position_of (get_or vectors k no_vector) m ≡ (a, b)

pub position_at : (vectors : List StrideVector) (a b : ℕ) → Contains (flat_map edges_of vectors) (a, b) →
    PositionAt vectors a b
position_at vectors a b has =
    let at = contains-flat edges_of vectors no_vector (a, b) has in
    let v = get_or vectors at.0 no_vector in
    let m = at.2.0 in
    let placed = edges-placed v in
    let below : m < v.n = subst (λ (n : ℕ). m < n) placed.0 at.2.1 in
    record { k = at.0; m = m; within = at.1; below = below; is = sym (placed.1 m (a, b) below) ∙ at.2.2 }

pub at_position : (vectors : List StrideVector) (a b : ℕ) → PositionAt vectors a b →
    Contains (flat_map edges_of vectors) (a, b)
at_position vectors a b p =
    let v = get_or vectors p.k no_vector in
    let placed = edges-placed v in
    flat-contains edges_of vectors p.k no_vector (a, b) p.within
    (p.m, subst (λ (n : ℕ). p.m < n) (sym placed.0) p.below, placed.1 p.m (a, b) p.below ∙ p.is)
