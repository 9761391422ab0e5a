-- Accesses without their values, by core.
use Rattle.std.specs.Prelude.{◌≡◌, ℕ, ◌-◌, ◌<◌, ◌≤◌, List, [], length, slice_index_or}
use Rattle.std.specs.List.{Contains}
use Rattle.rtr_types.specs.declared.access.Access.{Access}
use Rattle.rtr_types.specs.declared.pairs.Which.{Which}
use Rattle.conflict_edge.specs.Conflicts.{StandsIn}
use Rattle.race_log.specs.declared.recording.Recording.{Recording}
use Rattle.replay_core.specs.Plans.{plan_of}
use Rattle.replay_core.specs.Play.{accesses_of}
use Rattle.replay_audit.specs.declared.touch.Touch.{Touch}
use Rattle.replay_audit.specs.Laws.{IsWholePlay}

-- the touches of core c
abbrev pub touches_of : List (List Touch) → ℕ → List Touch
touches_of touched c = slice_index_or touched c []

-- an access without its values, and with 0 for them
abbrev pub as_touch : Access → Touch
as_touch a = record { at = a.at; word = a.word; kind = a.kind }

abbrev pub as_access : Touch → Access
as_access t = record { at = t.at; word = t.word; kind = t.kind; before = 0; after = 0 }

-- a is the access of the touch with this count
abbrev pub IsAccessOf : List Touch → (count : ℕ) → Access → Type 0
IsAccessOf list count a = (t : Touch) × Contains list t × (t.at.count ≡ count) × (a ≡ as_access t)

-- each count is below those after it
pub record AreRising (list : List Touch) : Type 0 where
  pub each : (i j : ℕ) (d : Touch) → i < j → j < length list →
      (slice_index_or list i d).at.count < (slice_index_or list j d).at.count

-- the touch with count n stands at place k
pub record IsAt (list : List Touch) (n k : ℕ) : Type 0 where
  pub within : k < length list
  pub is : (d : Touch) → (slice_index_or list k d).at.count ≡ n

-- where the count n stands in the list, or would: the touch before place k has a lower count, and the one there hasn't
pub record IsPlaceOf (list : List Touch) (n k : ℕ) : Type 0 where
  pub within : k ≤ length list
  pub before : (d : Touch) → 1 ≤ k → (slice_index_or list (k - 1) d).at.count < n
  pub after : (d : Touch) → k < length list → n ≤ (slice_index_or list k d).at.count

-- the k-th list has the accesses of core k, by rising count
pub record AreTouches (list : List Access) (cores : ℕ) (touched : List (List Touch)) : Type 0 where
  pub all : length touched ≡ cores
  pub forth : (a : Access) → StandsIn list a → Contains (touches_of touched a.at.core) (as_touch a)
  pub back : (c : ℕ) (t : Touch) → Contains (touches_of touched c) t →
      (a : Access) × StandsIn list a × (as_touch a ≡ t) × (a.at.core ≡ c)
  pub rising : (c : ℕ) → AreRising (touches_of touched c)

-- the accesses of the play of some whole replay order
pub record ArePlayed (which : Which) (r : Recording) (touched : List (List Touch)) : Type 0 where
  pub order : List ℕ
  pub play : IsWholePlay (plan_of which r) order
  pub touches : AreTouches (accesses_of (plan_of which r) order) (length r.totals) touched
