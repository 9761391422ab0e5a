use Rattle.run_ranges.specs.Firsts.{NoneBreaks}
use Rattle.run_ranges.proofs.firsts.first_in.Given as goal

-- none so far
abbrev pub invariant-loop-n : goal.invariant-loop-n
invariant-loop-n g l =
    NoneBreaks (g.T.Runs.breaks l.runs) l.fn.from l.n × g.T.Runs.serves l.runs l.bench
