use Rattle.std.proofs.Common.{arith}
use Rattle.move_marks.proofs.Counts.{count_is}
use Rattle.move_marks.proofs.marks.MoveMarks.count.Goals as goal

pub returns-clause-value : goal.returns-clause-value
returns-clause-value c = count_is c.args.self (omega arith)
