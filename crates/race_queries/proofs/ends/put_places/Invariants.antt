use Rattle.std.proofs.Common.{take}
use Rattle.race_queries.specs.Ends.{HasPlaces}
use Rattle.race_queries.proofs.ends.put_places.Given as goal

-- the ends of the edges so far have a place
abbrev pub invariant-loop-edge : goal.invariant-loop-edge
invariant-loop-edge l = HasPlaces l.kept (take l.edge-index l.edges)
