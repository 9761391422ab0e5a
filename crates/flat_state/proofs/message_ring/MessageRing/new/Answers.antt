use Rattle.link_order.proofs.Rings.{around_none}
use Rattle.flat_state.proofs.message_ring.MessageRing.new.Goals as goal

pub returns : goal.returns
returns c = around_none _ 0
