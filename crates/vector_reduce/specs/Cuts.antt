-- Cuts: how far each core has come. A cut is seen as a function from cores to counts.
use Rattle.std.specs.Prelude.{ℕ, ◌<◌, ◌≤◌, List, slice_index}
use Rattle.rtr_types.specs.declared.cut.Cut.{Cut}
use Rattle.rtr_types.specs.declared.instr.Instr.{Instr}
use Rattle.rtr_types.specs.declared.instr.Edge.{Edge}
use Rattle.stride_vector.specs.declared.StrideVector.{StrideVector}
use Rattle.stride_vector.specs.Vectors.{position_of}
use Rattle.clock_core.specs.Order.{Before, Among}

abbrev pub counts_in : Cut → ℕ → ℕ
counts_in cut core = slice_index cut.counts core

-- the instruction lies in the cut, and with it all before it on its core
abbrev pub Holds : (ℕ → ℕ) → Instr → Type 0
Holds cut x = x.count ≤ cut x.core

-- with the target of an edge the source lies in the cut
abbrev pub IsClosed : List Edge → (ℕ → ℕ) → Type 0
IsClosed edges cut = (x y : Instr) → Among edges x y → Holds cut y → Holds cut x

-- the last position of a vector whose target's count is at most so many
pub record IsLastWithin (v : StrideVector) (most position : ℕ) : Type 0 where
  pub within : position < v.n
  pub target : (position_of v position).1 ≤ most
  pub last : (k : ℕ) → k < v.n → (position_of v k).1 ≤ most → k ≤ position

-- the least closed cut in which an instruction lies
pub record IsLeastCut (edges : List Edge) (y : Instr) (cut : ℕ → ℕ) : Type 0 where
  pub holds : Holds cut y
  pub closed : IsClosed edges cut
  pub least : (other : ℕ → ℕ) → Holds other y → IsClosed edges other → (core : ℕ) → cut core ≤ other core

-- what leads to an instruction of a closed cut lies in it
abbrev pub ClosedHoldsLaw : Type 0
ClosedHoldsLaw = (edges : List Edge) (cut : ℕ → ℕ) (x y : Instr) → IsClosed edges cut → Holds cut y →
    Before (Among edges) x y → Holds cut x

-- so a closed cut with y and without x shows that x doesn't lead to y
abbrev pub CutShowsLaw : Type 0
CutShowsLaw = (edges : List Edge) (cut : ℕ → ℕ) (x y : Instr) → IsClosed edges cut → Holds cut y →
    (Holds cut x → ⊥) → Before (Among edges) x y → ⊥
