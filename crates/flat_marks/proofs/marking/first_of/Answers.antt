use Rattle.move_marks.proofs.SetBits.{first_common}
use Rattle.flat_marks.proofs.marking.first_of.Goals as goal

pub returns : goal.returns
returns c = λ k. first_common c.args.set.bits c.args.cores k c.requires
