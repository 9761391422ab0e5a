use Rattle.link_order.proofs.Rings.{around_none}
use Rattle.flat_state.proofs.reply_ring.ReplyRing.new.Goals as goal

pub returns : goal.returns
returns c = around_none _ 0
