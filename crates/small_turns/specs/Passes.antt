-- What a pass over turns that break the claim does to them.
use Rattle.std.specs.Prelude.{◌≡◌, ℕ, ◌+◌, ◌-◌, ◌<◌, ◌≤◌, Bool, true, false, List, length, sum_by, if◌then◌else◌}
use Rattle.turn_lists.specs.Turns.{count_at, left_out, with_count}
use Rattle.turn_lists.specs.declared.actor.Turn.{Turn}

-- how many accesses the turns make
abbrev pub accesses : List Turn → ℕ
accesses ts = sum_by (λ t. t.count) ts

-- how many turns there are, and how many accesses they make, together
abbrev pub weight : List Turn → ℕ
weight ts = length ts + accesses ts

-- there are no more turns, and they make no more accesses
pub record IsNoLarger (before after : List Turn) : Type 0 where
  pub fewer : length after ≤ length before
  pub shorter : accesses after ≤ accesses before

-- without any one of the turns the rest doesn't break the claim
abbrev pub EachIsNeeded : (breaks : List Turn → Bool) → List Turn → Type 0
EachIsNeeded breaks ts = (k : ℕ) → k < length ts → breaks (left_out k (k + 1) ts) ≡ false

-- with one access less in any one of the turns that have several, they don't break the claim
abbrev pub NoneIsShorter : (breaks : List Turn → Bool) → List Turn → Type 0
NoneIsShorter breaks ts = (k : ℕ) → k < length ts → 1 < count_at k ts →
    breaks (with_count k (count_at k ts - 1) ts) ≡ false

-- The turns after a pass break the claim as those before it; they are as they were, or smaller, and then it is said
-- that they changed.
pub record IsPass (breaks : List Turn → Bool) (before : List Turn) (had_changed : Bool) (after : List Turn)
    (changed : Bool) : Type 0 where
  pub breaks_it : breaks after ≡ true
  pub no_larger : IsNoLarger before after
  pub falls : weight after + (if changed then 1 else 0) ≤ weight before + (if had_changed then 1 else 0)
  pub kept : changed ≡ false → (had_changed ≡ false) × (after ≡ before)
