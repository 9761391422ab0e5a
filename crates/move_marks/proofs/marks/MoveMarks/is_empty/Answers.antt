use Rattle.std.proofs.Common.{arith}
use Rattle.move_marks.proofs.Counts.{none_is}
use Rattle.move_marks.proofs.marks.MoveMarks.is_empty.Goals as goal

pub returns : goal.returns
returns c = none_is c.args.self (omega arith)
