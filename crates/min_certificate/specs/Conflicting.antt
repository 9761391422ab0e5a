-- Which edges are conflicts, by the accesses of their ends.
use Rattle.std.specs.Prelude.{◌≡◌, ℕ, zero, suc, ◌+◌, ◌<◌, ◌≤◌, List, [], length, slice_index, slice_index_or}
use Rattle.std.specs.Prelude.{Option, Some}
use Rattle.std.specs.Prelude.{None}
use Rattle.rtr_types.specs.declared.instr.Instr.{Instr}
use Rattle.rtr_types.specs.declared.access.Access.{Access}
use Rattle.clock_entries.specs.Ends.{instr}
use Rattle.conflict_edge.specs.Conflicts.{StandsIn, Conflicts}

-- the one access at x, or none where there is none
abbrev pub IsAccessAt : List Access → Instr → Option Access → Type 0
IsAccessAt list x None = (a : Access) → StandsIn list a → a.at ≡ x → ⊥
IsAccessAt list x (Some b) = StandsIn list b × (b.at ≡ x) × ((a : Access) → StandsIn list a → a.at ≡ x → b ≡ a)

-- the place of the access at x, from 1, or 0 where there is none
abbrev pub IsPlaceOf : List Access → Instr → ℕ → Type 0
IsPlaceOf list x zero = IsAccessAt list x None
IsPlaceOf list x (suc k) = (k < length list) × ((d : Access) → IsAccessAt list x (Some (slice_index_or list k d)))

-- the place that is kept for core c's count n
abbrev pub place_in : List (List ℕ) → (c n : ℕ) → ℕ
place_in places c zero = 0
place_in places c (suc n) = slice_index (slice_index_or places c []) n

-- the place of the access with each count of each core, from count 1
pub record AreIndexed (list : List Access) (places : List (List ℕ)) : Type 0 where
  pub each : (c n : ℕ) → IsPlaceOf list (instr c (suc n)) (slice_index (slice_index_or places c []) n)
  pub some : (a : Access) → StandsIn list a → 1 ≤ a.at.count

-- the place stands at the count, and 0 at those between it and the last one before
pub record IsPut (old : List ℕ) (count place : ℕ) (new : List ℕ) : Type 0 where
  pub all : length new ≡ count
  pub before : (n : ℕ) → n < length old → slice_index new n ≡ slice_index old n
  pub between : (n : ℕ) → length old ≤ n → n + 1 < count → slice_index new n ≡ 0
  pub here : (n : ℕ) → n + 1 ≡ count → slice_index new n ≡ place

-- the accesses at x and y conflict, whichever comes first
abbrev pub BothConflict : List Access → Instr → Instr → Type 0
BothConflict list x y =
    (a : Access) × (b : Access) × StandsIn list a × StandsIn list b × (a.at ≡ x) × (b.at ≡ y) × Conflicts a b
