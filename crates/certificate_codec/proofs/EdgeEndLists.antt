-- The edge ends of each core.
use Rattle.std.proofs.Common.{◌≡◌, ◌<◌, ℕ, List, length, get_or}
use Rattle.std.specs.Prelude.{slice_index}
use Rattle.std.proofs.lemmas.List.FromFn.{get_or-map-range_with_len, length-map-range_with_len}
use Rattle.race_log.specs.declared.recording.Recording.{Recording}
use Rattle.clock_entries.specs.Ends.{ends_to}
use Rattle.certificate_codec.specs.Ends.{reduced_edges, ends_in}
use Rattle.std.proofs.Common.{arith}

-- the list of a core's ends
pub ends_of_one : (r : Recording) (c : ℕ) (d : List ℕ) → c < r.params.cores →
    get_or (ends_in r) c d ≡ ends_to (reduced_edges r) c (slice_index r.totals c)
ends_of_one r c d lt = get_or-map-range_with_len (λ i. ends_to (reduced_edges r) i (slice_index r.totals i)) 0
    r.params.cores c c d lt (omega arith)

pub length-ends_in : (r : Recording) → length (ends_in r) ≡ r.params.cores
length-ends_in r = length-map-range_with_len (λ i. ends_to (reduced_edges r) i (slice_index r.totals i)) 0
    r.params.cores
