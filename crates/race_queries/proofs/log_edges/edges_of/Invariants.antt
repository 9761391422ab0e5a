use Rattle.std.proofs.Common.{◌≡◌}
use Rattle.std.specs.List.{flat_map, range_with_len}
use Rattle.race_log.specs.Sources.{edges_at}
use Rattle.race_queries.proofs.log_edges.edges_of.Given as goal

-- the edges of the pairs so far
abbrev pub invariant-loop-place : goal.invariant-loop-place
invariant-loop-place l = l.list ≡ flat_map (edges_at l.fn.which l.recording) (range_with_len 0 l.place)
