use Rattle.move_marks.proofs.KindBits.{set_is}
use Rattle.move_marks.proofs.marks.MoveMarks.set_of.Goals as goal

pub returns : goal.returns
returns c = set_is c.args.kind c.args.self c.place.result c.place.ensures.value
