use Rattle.race_queries.specs.Places.{AreTargetsUpTo}
use Rattle.race_queries.proofs.sources.edges_out_of.Given as goal

abbrev pub invariant-loop-core : goal.invariant-loop-core
invariant-loop-core l = AreTargetsUpTo l.audited.which l.audited.recording l.fn.at l.core 0 l.list.items
