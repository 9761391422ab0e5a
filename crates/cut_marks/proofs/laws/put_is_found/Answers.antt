use Rattle.cut_marks.proofs.PutMarks.{found}
use Rattle.cut_marks.proofs.laws.put_is_found.Goals as goal

pub returns : goal.returns
returns c = found
