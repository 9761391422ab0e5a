use Rattle.tso_recordings.proofs.Orders.{in_order}
use Rattle.tso_recordings.proofs.laws.what_is_told_is_in_order.Goals as goal

pub returns : goal.returns
returns c = in_order
