use Rattle.cut_moves.proofs.Fronts.{order_cut}
use Rattle.cut_moves.proofs.laws.orders_have_closed_cuts.Goals as goal

pub returns : goal.returns
returns c = order_cut
