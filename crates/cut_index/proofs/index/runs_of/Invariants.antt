use Rattle.cut_index.specs.Indexes.{AreRuns}
use Rattle.cut_index.proofs.index.runs_of.Given as goal

abbrev pub invariant-loop-core : goal.invariant-loop-core
invariant-loop-core l = AreRuns l.fn.audited l.core l.runs.items
