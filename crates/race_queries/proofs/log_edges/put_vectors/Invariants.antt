use Rattle.std.proofs.Common.{◌≡◌, ◌++◌, map, take}
use Rattle.std.specs.List.{flat_map}
use Rattle.stride_vector.specs.Vectors.{edges_of}
use Rattle.race_log.specs.Sources.{edge_between}
use Rattle.race_queries.proofs.log_edges.put_vectors.Given as goal

-- the edges of the vectors so far
abbrev pub invariant-loop-vector : goal.invariant-loop-vector
invariant-loop-vector l =
    l.list
    ≡ l.initial.list ++ map (edge_between l.fn.from l.fn.to) (flat_map edges_of (take l.vector-index l.vectors))
