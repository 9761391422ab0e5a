-- The ends of a recording's reduced edges.
use Rattle.std.specs.Prelude.{◌≡◌, ℕ, ◌-◌, ◌<◌, ◌≤◌, List, length, map, slice_index}
use Rattle.std.specs.List.{range_with_len}
use Rattle.rtr_types.specs.declared.instr.Instr.{Instr}
use Rattle.rtr_types.specs.declared.instr.Edge.{Edge}
use Rattle.rtr_types.specs.declared.pairs.Which.TheVariants.{Reduced}
use Rattle.race_log.specs.declared.recording.Recording.{Recording}
use Rattle.race_log.specs.Sources.{log_edges}
use Rattle.race_log.specs.Validity.{Valid}
use Rattle.clock_entries.specs.Ends.{ends_to}

abbrev pub reduced_edges : Recording → List Edge
reduced_edges r = log_edges Reduced r

-- the edge ends of each core
abbrev pub ends_in : Recording → List (List ℕ)
ends_in r = map (λ c. ends_to (reduced_edges r) c (slice_index r.totals c)) (range_with_len 0 r.params.cores)

-- how many a core has
abbrev pub end_count : Recording → ℕ → ℕ
end_count r core = length (ends_to (reduced_edges r) core (slice_index r.totals core))

-- a valid recording, its edges and their ends
pub record HasEnds (r : Recording) (edges : List Edge) (ends : List (List ℕ)) : Type 0 where
  pub valid : Valid r
  pub edges_is : edges ≡ reduced_edges r
  pub ends_is : ends ≡ ends_in r

-- x is an instruction of the recording, or the place before a core's first one
pub record IsWithin (r : Recording) (x : Instr) : Type 0 where
  pub core : x.core < r.params.cores
  pub count : x.count ≤ slice_index r.totals x.core

-- so many of the rising ends, and not all, are at most the count
pub record IsNumber (ends : List ℕ) (count number : ℕ) : Type 0 where
  pub within : number < length ends
  pub above : count < slice_index ends number
  pub below : 1 ≤ number → slice_index ends (number - 1) ≤ count
