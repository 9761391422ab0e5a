-- What the online reduction holds, and what a retirement does to it.
use Rattle.std.specs.Prelude.{◌≡◌, ◌≢◌, ℕ, ◌+◌, ◌<◌, List, [], Bool, replicate, slice_index, slice_index_or, slice_set}
use Rattle.rtr_types.specs.Pairs.{pair_count}
use Rattle.rtr_types.specs.declared.TheConstants.{CORES_MAX}
use Rattle.rtr_types.specs.declared.instr.Instr.{Instr}
use Rattle.rtr_types.specs.declared.instr.Edge.{Edge}
use Rattle.rtr_types.specs.declared.access.Access.{Access}
use Rattle.clock_core.specs.Counts.{no_counts}
use Rattle.clock_core.specs.declared.clock.Clock.{Clock}
use Rattle.access_times.specs.declared.times.Times.{Times}
use Rattle.online_reduce.specs.Sources.{candidates}
use Rattle.online_reduce.specs.Rule.{edges_into, clock_into}
use Rattle.rtr_types.specs.PairEdges.{with_edges}

-- the number of cores, each core's last noted clock, and each pair's edges so far
pub record Reduced : Type 0 where
  pub cores : ℕ
  pub clocks : List Clock
  pub lists : List (List (ℕ × ℕ))

-- and whether one more retirement needs no memory
pub record Readied : Type 0 where
  pub state : Reduced
  pub ready : Bool

-- before the first retirement
abbrev pub unreduced : ℕ → Reduced
unreduced cores =
    record { cores = cores; clocks = replicate CORES_MAX no_counts; lists = replicate (pair_count cores) [] }

-- the clock noted last for the core
abbrev pub clock_of : Reduced → ℕ → Clock
clock_of r core = slice_index_or r.clocks core no_counts

-- how many instructions the core has retired: its clock's own place
abbrev pub count_of : Reduced → ℕ → ℕ
count_of r core = slice_index (clock_of r core) core

-- the core's next instruction
pub record IsNext (r : Reduced) (at : Instr) : Type 0 where
  pub core : at.core < r.cores
  pub count : at.count ≡ count_of r at.core + 1

-- an instruction without an access retired
abbrev pub counted : Reduced → Instr → Reduced
counted r at = record r { clocks = slice_set r.clocks at.core (slice_set (clock_of r at.core) at.core at.count) }

-- the edges that the access gets
abbrev pub edges_of : Reduced → Access → Times → List Edge
edges_of r a t = edges_into a.at (candidates r.cores (clock_of r a.at.core) a t)

-- the clock that the access gets
abbrev pub next_clock : Reduced → Access → Times → Clock
next_clock r a t =
    let before = clock_of r a.at.core in clock_into a.at before (candidates r.cores before a t)

-- an instruction with the access retired
abbrev pub retired : Reduced → Access → Times → Reduced
retired r a t = record {
  cores = r.cores;
  clocks = slice_set r.clocks a.at.core (next_clock r a t);
  lists = with_edges r.cores r.lists (edges_of r a t);
}

-- A retirement changes the clock of its core alone.
abbrev pub OtherClocksLaw : Type 0
OtherClocksLaw = (r : Reduced) (core : ℕ) →
    ((at : Instr) → core ≢ at.core → clock_of (counted r at) core ≡ clock_of r core)
    × ((a : Access) (t : Times) → core ≢ a.at.core → clock_of (retired r a t) core ≡ clock_of r core)
