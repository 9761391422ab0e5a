-- The sources of an instruction: the instructions from which edges of the log lead to it, at most one of each core.
use Rattle.std.specs.Prelude.{◌≡◌, ℕ, zero, suc, ◌≤◌, List, [], ◌∷◌, nat_eq, slice_index, Option, Some, None}
use Rattle.std.specs.Prelude.{if◌then◌else◌}
use Rattle.rtr_types.specs.declared.instr.Instr.{Instr}
use Rattle.rtr_types.specs.declared.instr.Edge.{Edge}
use Rattle.clock_core.specs.Counts.{no_counts}
use Rattle.clock_core.specs.Order.{Among}
use Rattle.replay_core.specs.Play.{instr}

-- for each core the count from which an edge leads to y, and 0 where there is none
pub record AreSources (edges : List Edge) (y : Instr) (sources : List ℕ) : Type 0 where
  pub each : (z : Instr) → Among edges z y → slice_index sources z.core ≡ z.count
  pub only : (c : ℕ) → 1 ≤ slice_index sources c → Among edges (instr c (slice_index sources c)) y

-- the sources that were found: where no edge leads to an instruction there are none
abbrev pub sources_in : Option (List ℕ) → List ℕ
sources_in None = no_counts
sources_in (Some sources) = sources

-- the sources of so many cores, one by one, the last core first
abbrev pub listed : List ℕ → (cores : ℕ) → List Instr
listed sources zero = []
listed sources (suc c) =
    if nat_eq (slice_index sources c) 0
    then listed sources c
    else instr c (slice_index sources c) ∷ listed sources c
