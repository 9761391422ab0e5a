use Rattle.debug_place.specs.Hits.{NoneIn, use_hits}
use Rattle.debug_place.proofs.counts.first_use.Given as goal

-- so far it stops at none of the counts
abbrev pub invariant-loop-count : goal.invariant-loop-count
invariant-loop-count g l = NoneIn (use_hits (g.S.Stops.hits l.stops) l.core l.uses) l.from l.count
