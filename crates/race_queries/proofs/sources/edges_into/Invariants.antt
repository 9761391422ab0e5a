use Rattle.race_queries.specs.Places.{AreSourcesUpTo}
use Rattle.race_queries.proofs.sources.edges_into.Given as goal

abbrev pub invariant-loop-core : goal.invariant-loop-core
invariant-loop-core l = AreSourcesUpTo l.audited.which l.audited.recording l.fn.at l.core l.list.items
