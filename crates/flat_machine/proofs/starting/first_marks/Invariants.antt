use Rattle.flat_machine.proofs.StartMarks.{FirstMarks}
use Rattle.flat_machine.proofs.starting.first_marks.Given as goal

abbrev pub invariant-loop-core : goal.invariant-loop-core
invariant-loop-core l = FirstMarks l.fn.nodes.items l.marks l.core
