use Rattle.std.proofs.Common.{◌≡◌, ◌++◌, map, take}
use Rattle.race_log.specs.Sources.{edge_between}
use Rattle.race_queries.proofs.log_edges.put_counts.Given as goal

-- the edges so far
abbrev pub invariant-loop-both : goal.invariant-loop-both
invariant-loop-both l =
    l.list ≡ l.initial.list ++ map (edge_between l.fn.from l.fn.to) (take l.both-index l.counts)
