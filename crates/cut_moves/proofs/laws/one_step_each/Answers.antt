use Rattle.cut_moves.proofs.OneStep.{one_step as step, one_step_back as back, step_by_union as by_union}
use Rattle.cut_moves.proofs.OneStep.{back_by_intersection as by_intersection}
use Rattle.cut_moves.proofs.laws.one_step_each.Goals as goal

pub returns : goal.returns
returns c = record { step = step; back = back; by_union = by_union; by_intersection = by_intersection }
