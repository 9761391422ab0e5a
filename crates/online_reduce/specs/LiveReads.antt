-- The noted reads of a set of cores, and what the edges from them leave.
use Rattle.std.specs.Prelude.{◌≡◌, ℕ, zero, suc, ◌<◌, List, [], ◌++◌, ◌&&◌, nat_lt, Option, Some, None, Bool, true}
use Rattle.std.specs.Prelude.{false, if◌then◌else◌, slice_set}
use Rattle.std.specs.List.{fold}
use Rattle.std.specs.Option.{is_some, option_to_list}
use Rattle.rtr_types.specs.CoreSets.{has}
use Rattle.rtr_types.specs.PairEdges.{with_edges}
use Rattle.rtr_types.specs.declared.core_set.CoreSet.{CoreSet}
use Rattle.rtr_types.specs.declared.instr.Instr.{Instr}
use Rattle.rtr_types.specs.declared.access.Access.{Access}
use Rattle.rtr_types.specs.declared.TheConstants.{CORES_MAX}
use Rattle.clock_core.specs.declared.clock.Clock.{Clock}
use Rattle.access_times.specs.declared.times.Times.{Times}
use Rattle.access_times.specs.Times.{read_at}
use Rattle.online_reduce.specs.Reduced.{Reduced, clock_of}
use Rattle.online_reduce.specs.Rule.{edges_into, merged_with}
use Rattle.online_reduce.specs.Sources.{is_live}
use Rattle.online_reduce.specs.declared.source.Source.{Source}

-- a core's noted read, with its instruction
abbrev pub source_of : ℕ → Option (ℕ × Clock) → Option Source
source_of core None = None
source_of core (Some r) = Some (record { at = record { core = core; count = r.0 }; clock = r.1 })

-- the core's noted read, where the set has the core
abbrev pub read_of : CoreSet → Times → ℕ → ℕ → List Source
read_of cores t slot core = if has cores core then option_to_list (source_of core (read_at t slot core)) else []

-- the noted reads of the slot's word of those cores of the set that are below a number, by rising core
unfoldable pub reads_of : ℕ → CoreSet → Times → ℕ → List Source
reads_of zero cores t slot = []
reads_of (suc core) cores t slot = reads_of core cores t slot ++ read_of cores t slot core

-- each core of the set has a noted read
abbrev pub AreNoted : CoreSet → Times → ℕ → Type 0
AreNoted cores t slot =
    (core : ℕ) → core < CORES_MAX → has cores core ≡ true → is_some (read_at t slot core) ≡ true

-- an access that writes may need an edge from the core's noted read
abbrev pub is_live_read : ℕ → Clock → Access → ℕ → Option (ℕ × Clock) → Bool
is_live_read cores before a core None = false
is_live_read cores before a core (Some r) =
    nat_lt core cores && is_live before a (record { core = core; count = r.0 })

-- the edges from the candidates into an instruction are drawn, and their clocks are taken over
abbrev pub drawn : Reduced → Instr → List Source → Reduced
drawn r at found = record {
  cores = r.cores;
  clocks = slice_set r.clocks at.core (fold merged_with (clock_of r at.core) found);
  lists = with_edges r.cores r.lists (edges_into at found);
}
