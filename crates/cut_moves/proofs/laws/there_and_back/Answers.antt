use Rattle.cut_moves.proofs.OneStep.{back_contains, step_contained, step_again, back_again}
use Rattle.cut_moves.proofs.laws.there_and_back.Goals as goal

pub returns : goal.returns
returns c = record { back = back_contains; step = step_contained; step_again = step_again; back_again = back_again }
