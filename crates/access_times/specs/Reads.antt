-- How the reads of a word are kept: places for all cores, and the set of the cores whose read is there.
use Rattle.std.specs.Prelude.{ℕ, Bool, List, Option, Some, None, map, if◌then◌else◌, slice_index_or}
use Rattle.std.specs.List.{range_with_len}
use Rattle.rtr_types.specs.CoreSets.{has}
use Rattle.rtr_types.specs.declared.TheConstants.{CORES_MAX}
use Rattle.rtr_types.specs.declared.core_set.CoreSet.{CoreSet}
use Rattle.std.specs.Borrow.{Bor}
use Rattle.clock_core.specs.Counts.{no_counts}
use Rattle.clock_core.specs.declared.clock.Clock.{Clock}

-- the read, where there is one
abbrev pub read_if : Bool → ℕ × Clock → Option (ℕ × Clock)
read_if is_there read = if is_there then Some read else None

-- the read at a core's place, which is there exactly where the set has the core
abbrev pub read_kept : CoreSet → List (ℕ × Clock) → ℕ → Option (ℕ × Clock)
read_kept readers places core = read_if (has readers core) (slice_index_or places core (0, no_counts))

-- each core's read
unfoldable pub reads_kept : CoreSet → List (ℕ × Clock) → List (Option (ℕ × Clock))
reads_kept readers places = map (read_kept readers places) (range_with_len 0 CORES_MAX)

-- a read that is lent, as it is to be read
abbrev pub read_seen : Option (Bor (ℕ × Clock)) → Option (ℕ × Clock)
read_seen None = None
read_seen (Some read) = Some read.now
