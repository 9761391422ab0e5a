use Rattle.cut_index.specs.Runs.{IsRunTo}
use Rattle.cut_index.proofs.runs.Run.of.Given as goal

abbrev pub invariant-loop-count : goal.invariant-loop-count
invariant-loop-count l = IsRunTo l.program l.loads l.fn.first l.count l.run l.alone
