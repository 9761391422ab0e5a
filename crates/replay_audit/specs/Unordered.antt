-- Accesses that conflict and that the log leaves unordered.
use Rattle.std.specs.Prelude.{◌≡◌, ℕ, Bool, true, false, not, ◌&&◌, nat_le, List, ◌∷◌, ◌++◌, slice_index, Option, Some}
use Rattle.std.specs.Prelude.{None}
use Rattle.rtr_types.specs.declared.instr.Instr.{Instr}
use Rattle.rtr_types.specs.declared.instr.Edge.{Edge}
use Rattle.rtr_types.specs.declared.access.Access.{Access}
use Rattle.clock_core.specs.Order.{Before, Among}
use Rattle.conflict_edge.specs.Conflicts.{Conflicts, StandsIn, do_conflict}
use Rattle.conflict_edge.specs.Least.{Suffices}

-- some access of the list conflicts with a later one and isn't before it by the log; the latest such one is at `first`
pub record IsLatestBefore (edges : List Edge) (list : List Access) (later : Access) (first : Instr) : Type 0 where
  pub older : List Access
  pub earlier : Access
  pub newer : List Access
  pub split : list ≡ older ++ earlier ∷ newer
  pub at : earlier.at ≡ first
  pub conflict : Conflicts earlier later
  pub unordered : Before (Among edges) earlier.at later.at → ⊥
  pub latest : (b : Access) → StandsIn newer b → Conflicts b later → Before (Among edges) b.at later.at

-- the earliest access of the list that has such a one before it is at `second`, and the latest of these at `first`
pub record IsUnordered (edges : List Edge) (list : List Access) (first second : Instr) : Type 0 where
  pub front : List Access
  pub later : Access
  pub rest : List Access
  pub split : list ≡ front ++ later ∷ rest
  pub at : later.at ≡ second
  pub ordered : Suffices front (Among edges)
  pub partner : IsLatestBefore edges front later first

-- ---- the same by a clock of the later access

-- the earlier access b is open: it conflicts with a, whose clock doesn't cover it
abbrev pub is_open : (b a : Access) → (clock : List ℕ) → Bool
is_open b a clock = do_conflict b a && not (nat_le b.at.count (slice_index clock b.at.core))

-- none of the list is open
abbrev pub AreCovered : List Access → Access → List ℕ → Type 0
AreCovered list a clock = (b : Access) → StandsIn list b → is_open b a clock ≡ false

-- the latest of the list that is open is at x
pub record IsLatestAt (list : List Access) (a : Access) (clock : List ℕ) (x : Instr) : Type 0 where
  pub older : List Access
  pub earlier : Access
  pub newer : List Access
  pub split : list ≡ older ++ earlier ∷ newer
  pub at : earlier.at ≡ x
  pub is_left : is_open earlier a clock ≡ true
  pub latest : AreCovered newer a clock

abbrev pub IsLatest : List Access → Access → List ℕ → Option Instr → Type 0
IsLatest list a clock None = AreCovered list a clock
IsLatest list a clock (Some x) = IsLatestAt list a clock x
