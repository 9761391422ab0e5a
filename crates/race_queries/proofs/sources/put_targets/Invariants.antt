use Rattle.race_queries.specs.Places.{AreTargetsUpTo}
use Rattle.race_queries.proofs.sources.put_targets.Given as goal

abbrev pub invariant-loop-done : goal.invariant-loop-done
invariant-loop-done l = AreTargetsUpTo l.fn.which l.recording l.fn.at l.fn.core l.done l.list.items
