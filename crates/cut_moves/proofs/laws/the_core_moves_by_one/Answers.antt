use Rattle.cut_moves.proofs.Fronts.{step_count, back_count}
use Rattle.cut_moves.proofs.laws.the_core_moves_by_one.Goals as goal

pub returns : goal.returns
returns c = record { step = step_count; back = back_count }
