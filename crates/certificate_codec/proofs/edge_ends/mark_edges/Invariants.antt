use Rattle.std.proofs.Common.{◌≡◌, ◌+◌, ◌<◌, ℕ, length, get_or, false}
use Rattle.std.specs.List.{flat_map, range_with_len}
use Rattle.rtr_types.specs.declared.pairs.Which.TheVariants.{Reduced}
use Rattle.race_log.specs.Sources.{edges_at}
use Rattle.clock_entries.specs.Ends.{instr, is_end}
use Rattle.certificate_codec.proofs.edge_ends.mark_edges.Given as goal

-- the ends of the pairs so far are marked
abbrev pub invariant-loop-place : goal.invariant-loop-place
invariant-loop-place l = (n : ℕ) → n < length l.fn.marks → get_or l.marks n false
    ≡ is_end (flat_map (edges_at Reduced l.recording) (range_with_len 0 l.place)) (instr l.core (n + 1))
