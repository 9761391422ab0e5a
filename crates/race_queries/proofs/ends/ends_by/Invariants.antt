use Rattle.std.proofs.Common.{◌≡◌, map, take}
use Rattle.race_queries.specs.Ends.{ends_by}
use Rattle.race_queries.proofs.ends.ends_by.Given as goal

-- the edges so far
abbrev pub invariant-loop-edge : goal.invariant-loop-edge
invariant-loop-edge l = l.list ≡ map (ends_by l.kept) (take l.edge-index l.edges)
