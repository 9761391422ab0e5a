use Rattle.std.proofs.Common.{◌≡◌}
use Rattle.std.specs.List.{range_with_len}
use Rattle.std.specs.Prelude.{map, slice_index}
use Rattle.clock_entries.specs.Ends.{ends_to}
use Rattle.certificate_codec.specs.Ends.{reduced_edges}
use Rattle.certificate_codec.proofs.edge_ends.ends_of.Given as goal

abbrev pub invariant-loop-core : goal.invariant-loop-core
invariant-loop-core l = l.ends
    ≡ map (λ c. ends_to (reduced_edges l.recording) c (slice_index l.recording.totals c)) (range_with_len 0 l.core)
