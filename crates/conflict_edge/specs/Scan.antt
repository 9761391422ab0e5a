-- What the plain reduction has after each access.
use Rattle.std.specs.Prelude.{◌≡◌, ℕ, ◌<◌, ◌⊎◌, ◌↔◌, List, slice_index_or, length}
use Rattle.rtr_types.specs.declared.instr.Instr.{Instr}
use Rattle.rtr_types.specs.declared.instr.Edge.{Edge}
use Rattle.rtr_types.specs.declared.access.Access.{Access}
use Rattle.clock_core.specs.Order.{Among}
use Rattle.clock_core.specs.declared.clock.Clock.{Clock}
use Rattle.conflict_edge.specs.Least.{Covering}
use Rattle.conflict_edge.specs.Times.{IsExactClock}

-- the k-th clock is that of the k-th access
abbrev pub AreExactClocks : List Access → List Clock → Type 0
AreExactClocks list clocks = (k : ℕ) (d : Access) (e : Clock) → k < length list →
    IsExactClock list (slice_index_or list k d).at (slice_index_or clocks k e)

-- the new edges are the old ones and the covering pairs into a
abbrev pub AddsCoveringInto : List Access → Access → List Edge → List Edge → Type 0
AddsCoveringInto list a old new =
    (x y : Instr) → Among new x y ↔ (Among old x y ⊎ ((y ≡ a.at) × Covering list x a.at))

-- the edges are the covering pairs
abbrev pub AreCovering : List Access → List Edge → Type 0
AreCovering list edges = (x y : Instr) → Among edges x y ↔ Covering list x y
