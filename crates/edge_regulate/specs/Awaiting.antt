-- What is awaited of one pair of cores, while its open vector goes on.
use Rattle.std.specs.Prelude.{◌≡◌, ◌≢◌, ℕ, zero, suc, ◌+◌, ◌-◌, ◌^◌, ◌<◌, ◌≤◌, ◌⊎◌, true, false, nat_eq, nat_le}
use Rattle.std.specs.Prelude.{List, length, slice_index_or, if◌then◌else◌}
use Rattle.stride_vector.specs.declared.StrideVector.{StrideVector}
use Rattle.edge_regulate.specs.declared.seat.Awaited.{Awaited}
use Rattle.edge_regulate.specs.Greedy.{Knows, is_covered, next_of, opened, second}

-- more than each count
abbrev pub never : ℕ
never = 2 ^ 32

abbrev pub none_awaited : Awaited
none_awaited = record { target = never; reached = 0; sa = 0; sb = 0 }

-- the source's instructions up to this one are known
abbrev pub up_to : ℕ → Knows
up_to reached a b = nat_le a reached

-- the vector that may go on
abbrev pub newest : List StrideVector → StrideVector
newest vectors = slice_index_or vectors (length vectors - 1) (opened (0, 0))

-- the edge gave the vector its strides: the position after it is awaited
abbrev pub begun : StrideVector → ℕ × ℕ → Awaited
begun v e = record { target = e.1 + v.sb; reached = e.0; sa = v.sa; sb = v.sb }

-- what is awaited once the vector has taken the edge
abbrev pub awaited_with : Awaited → StrideVector → ℕ × ℕ → Awaited
awaited_with w v e = if is_covered v e then w else if nat_eq v.n 1 then begun (second v e) e else w

-- the awaited instruction of the target retired, when so many of the source were known: the position after the awaited
-- one is awaited where that is known, and else none
abbrev pub looked : (known : ℕ) → Awaited → Awaited
looked known w =
    if nat_le (w.reached + w.sa) known
    then record { target = w.target + w.sb; reached = w.reached + w.sa; sa = w.sa; sb = w.sb }
    else record { target = never; reached = w.reached; sa = w.sa; sb = w.sb }

-- the target's instruction with this count retired
abbrev pub watched : (count known : ℕ) → Awaited → Awaited
watched count known w = if nat_eq w.target count then looked known w else w

-- ---- what it stands for, where so many retirements of the target were noted

-- the position (a, b) wasn't looked at, and is awaited, or it was, and wasn't known
abbrev pub Stops : Knows → (noted target a b : ℕ) → Type 0
Stops knows noted target a b =
    ((target ≡ b) × (noted < b)) ⊎ ((target ≡ never) × (b ≤ noted) × (knows a b ≡ false))

-- from (a, b) on so many positions of the strides are known, and the next one stops it
abbrev pub Reaches : Knows → (noted : ℕ) → Awaited → (count a b : ℕ) → Type 0
Reaches knows noted w zero a b = (w.reached + w.sa ≡ a) × Stops knows noted w.target a b
Reaches knows noted w (suc count) a b =
    (b ≤ noted) × (knows a b ≡ true) × Reaches knows noted w count (a + w.sa) (b + w.sb)

-- the vector has strides, and from its next position on some positions are known
pub record GoesOn (knows : Knows) (noted : ℕ) (v : StrideVector) (w : Awaited) : Type 0 where
  pub source : w.sa ≡ v.sa
  pub target : w.sb ≡ v.sb
  pub count : ℕ
  pub reaches : Reaches knows noted w count (next_of v).0 (next_of v).1

-- what is awaited of the vector
pub record IsAwaited (knows : Knows) (noted : ℕ) (v : StrideVector) (w : Awaited) : Type 0 where
  pub idle : v.n ≡ 1 → w.target ≡ never
  pub goes_on : v.n ≢ 1 → GoesOn knows noted v w
