use Rattle.std.proofs.Common.{◌≡◌, ◌++◌, map}
use Rattle.std.specs.List.{range_with_len}
use Rattle.stride_vector.specs.Vectors.{position_of}
use Rattle.race_log.specs.Sources.{edge_between}
use Rattle.race_queries.proofs.log_edges.put_vector.Given as goal

-- the edges so far
abbrev pub invariant-loop-k : goal.invariant-loop-k
invariant-loop-k l =
    l.list
    ≡ l.initial.list ++ map (edge_between l.fn.from l.fn.to) (map (position_of l.vector) (range_with_len 0 l.k))
