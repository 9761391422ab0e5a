use Rattle.std.proofs.Common.{◌≡◌}
use Rattle.race_answers.specs.Traces.{stretch}
use Rattle.race_answers.proofs.traces.stretch.Given as goal

-- the instructions so far
abbrev pub invariant-loop-k : goal.invariant-loop-k
invariant-loop-k l = l.list ≡ stretch l.core l.from l.k
