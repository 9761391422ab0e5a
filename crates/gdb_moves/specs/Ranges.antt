-- Rule: range stepping: goes_on
-- Steps on and on, while the core stands in a range of addresses.
use Rattle.std.specs.Prelude.{ℕ, ◌&&◌, Bool, false, nat_eq, nat_le, nat_lt, not, List, slice_index}
use Rattle.gdb_packets.specs.declared.replies.Stop as stops
use Rattle.gdb_packets.specs.declared.replies.Why.{Why}
use Rattle.gdb_packets.specs.declared.replies.Why.TheVariants.{Nothing}
use Rattle.replay_core.specs.Play.{core_at}
use Rattle.cut_replay.specs.ClosedCuts.{count_in}
use Rattle.debug_place.specs.Places.{Placed, cut_at}
use Rattle.gdb_moves.specs.declared.points.Point.{Point}
use Rattle.gdb_moves.specs.declared.ranges.Range.{Range}
use Rattle.gdb_moves.specs.Points.{breaks_at}

-- the address lies in the range
abbrev pub has_pc : Range → (pc : ℕ) → Bool
has_pc range pc = nat_le range.from pc && nat_lt pc range.past

-- and no breakpoint is there
abbrev pub stays_at : Range → List Point → (pc : ℕ) → Bool
stays_at range points pc = has_pc range pc && not (breaks_at points pc)

-- the core has more to do, and stands there
abbrev pub stands_in : Range → List Point → (core : ℕ) → Placed → Bool
stands_in range points core place =
    nat_lt (count_in (cut_at place) core) (slice_index place.recording.totals core)
    && stays_at range points (core_at place.state core).pc

-- nothing but its step stopped the core
abbrev pub is_nothing : Why → (core told : ℕ) → Bool
is_nothing Nothing core told = nat_eq told core
is_nothing _ core told = false

abbrev pub is_step : (core : ℕ) → stops.Stop → Bool
is_step core stop = is_nothing stop.why core stop.core

-- behind a step that told this stop the core goes on: it took an instruction, and stands in the range with more to do
abbrev pub goes_on : Range → List Point → (core before : ℕ) → (new : Placed) → stops.Stop → Bool
goes_on range points core before new stop =
    is_step core stop && (nat_lt before (count_in (cut_at new) core) && stands_in range points core new)
