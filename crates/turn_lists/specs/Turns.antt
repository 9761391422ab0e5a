-- Rule: turns joined, left out and least in steps: joined, left_out, IsLeastInSteps
-- Lists of turns: neighbours joined, some left out, one changed, and which lists are least.
use Rattle.std.specs.Prelude.{◌≡◌, ℕ, zero, suc, ◌+◌, ◌-◌, ◌<◌, min, Bool, true, false, List, [], ◌∷◌, ◌++◌, length}
use Rattle.std.specs.Prelude.{drop, map, slice_index, take, if◌then◌else◌}
use Rattle.turn_lists.specs.Actors.{is_same}
use Rattle.turn_lists.specs.declared.actor.TheConstants.{COUNT_MAX}
use Rattle.turn_lists.specs.declared.actor.Turn.{Turn}

-- so many accesses in a row, and then so many more; no actor makes more than COUNT_MAX of them in any run, so that
-- stands for all above it
abbrev pub together : ℕ → ℕ → ℕ
together m n = min (m + n) COUNT_MAX

-- the turns, this one first, with neighbours of one actor joined
abbrev pub joined_from : Turn → List Turn → List Turn
joined_from t [] = t ∷ []
joined_from t (u ∷ us) =
    if is_same t.actor u.actor then joined_from (record t { count = together t.count u.count }) us
    else t ∷ joined_from u us

-- the turns with neighbours of one actor joined
unfoldable pub joined : List Turn → List Turn
joined [] = []
joined (t ∷ ts) = joined_from t ts

-- the turns without those from one place up to another, neighbours of one actor joined
abbrev pub left_out : (from to : ℕ) → List Turn → List Turn
left_out from to ts = joined (take from ts ++ drop to ts)

-- how many accesses the turn at a place has
abbrev pub count_at : ℕ → List Turn → ℕ
count_at place ts = slice_index (map (λ (t : Turn). t.count) ts) place

-- the turns with that many accesses in the turn at a place
abbrev pub with_count : (place count : ℕ) → List Turn → List Turn
with_count place count [] = []
with_count zero count (t ∷ ts) = record t { count = count } ∷ ts
with_count (suc place) count (t ∷ ts) = t ∷ with_count place count ts

-- The turns are least in steps: they break the claim, and none that is one step smaller does: no turn can be left out,
-- and no turn of several accesses can have one less.
pub record IsLeastInSteps (breaks : List Turn → Bool) (ts : List Turn) : Type 0 where
  pub breaks_it : breaks ts ≡ true
  pub each_needed : (k : ℕ) → k < length ts → breaks (left_out k (k + 1) ts) ≡ false
  pub none_shorter : (k : ℕ) → k < length ts → 1 < count_at k ts →
      breaks (with_count k (count_at k ts - 1) ts) ≡ false
