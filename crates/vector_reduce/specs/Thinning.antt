-- Rule: vectors that the others imply, and what thinning leaves: IsImplied, Thins
-- Thinning: each vector is tried once, in order, and left out where the others imply it.
use Rattle.std.specs.Prelude.{◌≡◌, ℕ, ◌<◌, ◌⊎◌, List, [], ◌∷◌, ◌++◌, length}
use Rattle.rtr_types.specs.declared.instr.Instr.{Instr}
use Rattle.clock_core.specs.Order.{Before, Among}
use Rattle.vector_reduce.specs.declared.pair_vector.PairVector.{PairVector}
use Rattle.vector_reduce.specs.Vectors.{edges_in, edges_of_all, vector_at, others_of}

-- each edge of the vector is before by the edges of the others
abbrev pub IsImplied : (others : List PairVector) → PairVector → Type 0
IsImplied others v = (x y : Instr) → Among (edges_in v) x y → Before (Among (edges_of_all others)) x y

-- some edge of it isn't
pub record IsNeeded (others : List PairVector) (v : PairVector) : Type 0 where
  pub from : Instr
  pub to : Instr
  pub edge : Among (edges_in v) from to
  pub not_before : Before (Among (edges_of_all others)) from to → ⊥

-- What is left of the vectors that stayed and of those that are still to be tried. The others of the one that is tried
-- are those that aren't left out so far: those that stayed before it, and all after it.
abbrev pub Thins : (stayed vectors left : List PairVector) → Type 0
Thins stayed [] left = left ≡ stayed
Thins stayed (v ∷ vectors) left =
    (IsImplied (stayed ++ vectors) v × Thins stayed vectors left)
    ⊎ (IsNeeded (stayed ++ vectors) v × Thins (stayed ++ v ∷ []) vectors left)

-- none has stayed before the first
abbrev pub IsThinned : (vectors left : List PairVector) → Type 0
IsThinned vectors left = Thins [] vectors left

-- each vector is needed among all
abbrev pub EachNeeded : List PairVector → Type 0
EachNeeded vectors = (k : ℕ) → k < length vectors → IsNeeded (others_of vectors k) (vector_at vectors k)
