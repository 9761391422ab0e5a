-- Rule: good and exact entries, needed edges: AreGood, AreExact, IsNeeded
-- Good, exact and needed, by the entries of instructions: a count of each core, for each instruction the last entry at
-- or before it on its core.
use Rattle.std.specs.Prelude.{◌≡◌, ◌≢◌, ℕ, ◌<◌, ◌≤◌, ◌⊎◌, List}
use Rattle.rtr_types.specs.declared.instr.Instr.{Instr}
use Rattle.rtr_types.specs.declared.instr.Edge.{Edge}
use Rattle.rtr_types.specs.declared.access.Access.{Access}
use Rattle.clock_core.specs.Order.{Before, Among, previous}
use Rattle.clock_core.specs.Reach.{IsClock}
use Rattle.conflict_edge.specs.Conflicts.{ConflictPair}
use Rattle.conflict_edge.specs.Least.{Others}
use Rattle.clock_entries.specs.Ends.{IsEnd}

-- a count of each core, for each instruction
abbrev pub Entry : Type 0
Entry = Instr → ℕ → ℕ

-- there is none at count 0, and where no edge begins or ends the one before stays the last
pub record IsLastEntry (edges : List Edge) (entry : Entry) : Type 0 where
  pub none : (c i : ℕ) → entry (record { core = c; count = 0 }) i ≡ 0
  pub stays : (y : Instr) → 1 ≤ y.count → (IsEnd edges y → ⊥) → (i : ℕ) → entry y i ≡ entry (previous y) i

-- the entry has its own count at its own place, at each other place at least what the core's previous entry has, and at
-- each place at least what the entry of each logged source has
pub record IsGoodAt (edges : List Edge) (entry : Entry) (x : Instr) : Type 0 where
  pub own : entry x x.core ≡ x.count
  pub rises : (i : ℕ) → i ≢ x.core → entry (previous x) i ≤ entry x i
  pub sources : (z : Instr) → Among edges z x → (i : ℕ) → entry z i ≤ entry x i

abbrev pub AreGood : List Edge → Entry → Type 0
AreGood edges entry = (x : Instr) → IsEnd edges x → IsGoodAt edges entry x

-- each entry has at place i the number of instructions of core i that are its end or lead to it
abbrev pub AreExact : List Edge → Entry → Type 0
AreExact edges entry = (x : Instr) → IsEnd edges x → IsClock (Among edges) x (entry x)

-- neither the entry before y on its core nor that of another logged source of y has x
pub record IsNeeded (edges : List Edge) (entry : Entry) (x y : Instr) : Type 0 where
  pub before : entry (previous y) x.core < x.count
  pub others : (z : Instr) → Among edges z y → z ≢ x → entry z x.core < x.count

-- one of them has x
abbrev pub IsKnownOtherwise : List Edge → Entry → Instr → Instr → Type 0
IsKnownOtherwise edges entry x y =
    (x.count ≤ entry (previous y) x.core) ⊎ ((z : Instr) × Among edges z y × (z ≢ x) × (x.count ≤ entry z x.core))

-- the other edges imply the edge
abbrev pub IsImplied : List Edge → Instr → Instr → Type 0
IsImplied edges x y = Before (Others (Among edges) x y) x y

-- an edge that no least log has: no conflict, or implied by the others
abbrev pub IsAmiss : List Access → List Edge → Instr → Instr → Type 0
IsAmiss list edges x y = (ConflictPair list x y → ⊥) ⊎ IsImplied edges x y
