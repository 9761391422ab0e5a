-- What entries show of a log.
use Rattle.std.specs.Prelude.{◌≡◌, ◌≢◌, ℕ, ◌<◌, ◌≤◌, ◌↔◌, ◌⊎◌, List}
use Rattle.rtr_types.specs.declared.instr.Instr.{Instr}
use Rattle.rtr_types.specs.declared.instr.Edge.{Edge}
use Rattle.rtr_types.specs.declared.access.Access.{Access}
use Rattle.clock_core.specs.Order.{Within, Before, Among, previous}
use Rattle.clock_core.specs.Reach.{IsClock, with_own}
use Rattle.conflict_edge.specs.Conflicts.{ConflictPair, CountsRise}
use Rattle.conflict_edge.specs.Least.{Suffices, IsLeast}
use Rattle.clock_entries.specs.Ends.{IsEnd, Clocks, entry_of}
use Rattle.clock_entries.specs.Entries.{Entry, IsLastEntry, AreGood, AreExact, IsNeeded, IsKnownOtherwise, IsImplied}
use Rattle.clock_entries.specs.Entries.{IsAmiss}

-- edges between instructions of different cores, which count from 1
pub record IsLog (edges : List Edge) : Type 0 where
  pub sources : (x y : Instr) → Among edges x y → 1 ≤ x.count
  pub targets : (x y : Instr) → Among edges x y → 1 ≤ y.count
  pub apart : (x y : Instr) → Among edges x y → x.core ≢ y.core

-- no instruction leads to itself
abbrev pub IsAcyclic : List Edge → Type 0
IsAcyclic edges = (x : Instr) → Before (Among edges) x x → ⊥

-- the entries of a list of clocks are last entries
abbrev pub LastEntryLaw : Type 0
LastEntryLaw = (edges : List Edge) (clocks : Clocks) → IsLastEntry edges (entry_of edges clocks)

-- the last entry has all but the own count: with that at its own place it is the clock of the instruction, where the
-- entries so far on its core are exact
abbrev pub EveryClockLaw : Type 0
EveryClockLaw = (edges : List Edge) (entry : Entry) (y : Instr) →
    IsLog edges → IsAcyclic edges → IsLastEntry edges entry →
    ((x : Instr) → IsEnd edges x → x.core ≡ y.core → x.count ≤ y.count → IsClock (Among edges) x (entry x)) →
    IsClock (Among edges) y (with_own y (entry y))

-- no more than the count at place i of the entry before y, or of the entry of a logged source of y
abbrev pub IsBelowSources : List Edge → Entry → Instr → (i n : ℕ) → Type 0
IsBelowSources edges entry y i n = (n ≤ entry (previous y) i) ⊎ ((z : Instr) × Among edges z y × (n ≤ entry z i))

-- the clock of y is the entry before it on its core, merged with those of its logged sources, with its own count: where
-- these are exact, and all before on its core
abbrev pub NextClockLaw : Type 0
NextClockLaw = (edges : List Edge) (entry : Entry) (y : Instr) (merged : ℕ → ℕ) →
    IsLog edges → IsAcyclic edges → IsLastEntry edges entry → 1 ≤ y.count →
    ((x : Instr) → IsEnd edges x → x.core ≡ y.core → x.count < y.count → IsClock (Among edges) x (entry x)) →
    ((z : Instr) → Among edges z y → IsClock (Among edges) z (entry z)) →
    ((i n : ℕ) → i ≢ y.core → 1 ≤ n → (n ≤ merged i) ↔ IsBelowSources edges entry y i n) →
    IsClock (Among edges) y (with_own y merged)

-- exact entries are good
abbrev pub ExactIsGoodLaw : Type 0
ExactIsGoodLaw = (edges : List Edge) (entry : Entry) → IsLog edges → IsAcyclic edges → IsLastEntry edges entry →
    AreExact edges entry → AreGood edges entry

-- good entries are at least the exact ones at every place
abbrev pub GoodIsAtLeastLaw : Type 0
GoodIsAtLeastLaw = (edges : List Edge) (entry exact : Entry) →
    IsLastEntry edges entry → AreGood edges entry → AreExact edges exact →
    (x : Instr) → IsEnd edges x → (i : ℕ) → exact x i ≤ entry x i

-- where the entries are good, the other edges imply no needed edge
abbrev pub NeededLaw : Type 0
NeededLaw = (edges : List Edge) (entry : Entry) (x y : Instr) →
    IsLog edges → IsLastEntry edges entry → AreGood edges entry →
    Among edges x y → IsNeeded edges entry x y → IsImplied edges x y → ⊥

-- where the entries are exact, the other edges imply an edge exactly where its source is known otherwise
abbrev pub ImpliedLaw : Type 0
ImpliedLaw = (edges : List Edge) (entry : Entry) (x y : Instr) →
    IsLog edges → IsAcyclic edges → IsLastEntry edges entry → AreExact edges entry →
    Among edges x y → IsImplied edges x y ↔ IsKnownOtherwise edges entry x y

-- an edge is needed or its source is known otherwise, and never both
abbrev pub NeededOrKnownLaw : Type 0
NeededOrKnownLaw = (edges : List Edge) (entry : Entry) (x y : Instr) →
    IsNeeded edges entry x y ↔ (IsKnownOtherwise edges entry x y → ⊥)

-- good entries by which each edge is needed show that a sufficient log of conflict pairs is least
abbrev pub GoodShowsLeastLaw : Type 0
GoodShowsLeastLaw = (list : List Access) (edges : List Edge) (entry : Entry) →
    CountsRise list → IsLog edges → IsLastEntry edges entry →
    Within (Among edges) (ConflictPair list) → Suffices list (Among edges) → AreGood edges entry →
    ((x y : Instr) → Among edges x y → IsNeeded edges entry x y) → IsLeast list edges

-- by exact entries each edge of a least log is needed
abbrev pub LeastIsNeededLaw : Type 0
LeastIsNeededLaw = (list : List Access) (edges : List Edge) (entry : Entry) →
    CountsRise list → IsLog edges → IsAcyclic edges → IsLastEntry edges entry → AreExact edges entry →
    IsLeast list edges → (x y : Instr) → Among edges x y → IsNeeded edges entry x y

-- a sufficient log is least exactly where none of its edges is amiss
abbrev pub AmissLaw : Type 0
AmissLaw = (list : List Access) (edges : List Edge) → CountsRise list → Suffices list (Among edges) →
    IsLeast list edges ↔ ((x y : Instr) → Among edges x y → IsAmiss list edges x y → ⊥)
