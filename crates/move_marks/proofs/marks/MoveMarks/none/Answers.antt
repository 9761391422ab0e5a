use Rattle.move_marks.proofs.KindBits.{none_set}
use Rattle.move_marks.proofs.marks.MoveMarks.none.Goals as goal

pub returns : goal.returns
returns c = λ kind n. none_set kind n
