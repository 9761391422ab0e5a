-- Exact clocks at edge ends.
use Rattle.std.specs.Prelude.{◌≡◌, ℕ, ◌<◌, List, [], length, slice_index, slice_index_or}
use Rattle.clock_core.specs.Order.{Among}
use Rattle.clock_core.specs.Reach.{IsClock}
use Rattle.clock_entries.specs.Ends.{Clocks, instr, ends_to}
use Rattle.race_log.specs.declared.recording.Recording.{Recording}
use Rattle.certificate_codec.specs.Ends.{reduced_edges, end_count}

-- the k-th edge end of a core, from 0
abbrev pub end_of : Recording → (core k : ℕ) → ℕ
end_of r core k = slice_index (ends_to (reduced_edges r) core (slice_index r.totals core)) k

-- a count of each core, of which each is exact
pub record IsEntryOf (r : Recording) (core count : ℕ) (entry : List ℕ) : Type 0 where
  pub each_core : length entry ≡ r.params.cores
  pub exact : IsClock (Among (reduced_edges r)) (instr core count) (λ i. slice_index entry i)

-- one for each edge end of the core
pub record AreClocksOf (r : Recording) (core : ℕ) (entries : List (List ℕ)) : Type 0 where
  pub all : length entries ≡ end_count r core
  pub each : (k : ℕ) → k < length entries → IsEntryOf r core (end_of r core k) (slice_index_or entries k [])

-- for each core
pub record HasClocks (r : Recording) (clocks : Clocks) : Type 0 where
  pub all : length clocks ≡ r.params.cores
  pub each : (core : ℕ) → core < r.params.cores → AreClocksOf r core (slice_index_or clocks core [])
