-- Clocks as reachability.
use Rattle.std.specs.Prelude.{◌≡◌, ℕ, ◌≤◌, ◌⊎◌, ◌↔◌, List, [], ◌∷◌, max, nat_eq, if◌then◌else◌}
use Rattle.rtr_types.specs.declared.instr.Instr.{Instr}
use Rattle.rtr_types.specs.declared.instr.Edge.{Edge}
use Rattle.clock_core.specs.Order.{Relation, Before, IsOrLeads, Among, previous}

-- at place i the clock has the number of instructions of core i that are y or lead to y, which are the first ones of
-- that core
abbrev pub IsClock : Relation → Instr → (ℕ → ℕ) → Type 0
IsClock E y clock = (x : Instr) → 1 ≤ x.count → (x.count ≤ clock x.core) ↔ IsOrLeads E x y

-- x is one of these
abbrev pub IsOneOf : List Instr → Instr → Type 0
IsOneOf [] x = ⊥
IsOneOf (z ∷ zs) x = (z ≡ x) ⊎ IsOneOf zs x

-- the greatest count at each place, of a clock and of those of some instructions
abbrev pub merged_over : (ℕ → ℕ) → (Instr → ℕ → ℕ) → List Instr → ℕ → ℕ
merged_over own clock [] i = own i
merged_over own clock (z ∷ zs) i = max (clock z i) (merged_over own clock zs i)

-- the clock with y's count at the place of y's core
abbrev pub with_own : Instr → (ℕ → ℕ) → ℕ → ℕ
with_own y clock i = if nat_eq i y.core then y.count else clock i

-- Where no path leads from y back to y, the clock of y is that of the instruction before it on its core, merged
-- with those of the sources of the edges into y, with y's own count at its core's place.
abbrev pub MergeLaw : Type 0
MergeLaw = (edges : List Edge) (y : Instr) (sources : List Instr) (own : ℕ → ℕ) (clock : Instr → ℕ → ℕ) →
    1 ≤ y.count →
    (Before (Among edges) y y → ⊥) →
    ((z : Instr) → Among edges z y ↔ IsOneOf sources z) →
    IsClock (Among edges) (previous y) own →
    ((z : Instr) → IsOneOf sources z → IsClock (Among edges) z (clock z)) →
    IsClock (Among edges) y (with_own y (merged_over own clock sources))

-- Two clocks of one instruction have the same count at each place.
abbrev pub OneClockLaw : Type 0
OneClockLaw = (edges : List Edge) (y : Instr) (first second : ℕ → ℕ) → IsClock (Among edges) y first →
    IsClock (Among edges) y second →
    (i : ℕ) → first i ≡ second i
