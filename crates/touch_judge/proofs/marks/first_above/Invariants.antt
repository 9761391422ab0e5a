use Rattle.touch_judge.specs.Marks.{IsBelow}
use Rattle.touch_judge.proofs.marks.first_above.Given as goal

abbrev pub invariant-loop-core : goal.invariant-loop-core
invariant-loop-core l = IsBelow l.counts l.clock l.but l.core
