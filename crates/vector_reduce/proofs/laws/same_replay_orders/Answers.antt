use Rattle.vector_reduce.proofs.Orders.{same_orders}
use Rattle.vector_reduce.proofs.laws.same_replay_orders.Goals as goal

pub returns : goal.returns
returns c = same_orders
