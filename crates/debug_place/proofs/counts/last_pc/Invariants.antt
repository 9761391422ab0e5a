use Rattle.debug_place.specs.Hits.{NoneIn, pc_hits}
use Rattle.debug_place.proofs.counts.last_pc.Given as goal

-- so far it stops at none of the counts
abbrev pub invariant-loop-count : goal.invariant-loop-count
invariant-loop-count g l = NoneIn (pc_hits (g.S.Stops.hits l.stops) l.core l.pcs) l.count l.past
