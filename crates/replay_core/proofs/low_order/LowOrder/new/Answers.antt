use Rattle.replay_core.proofs.LowestReady.{awaited_none}
use Rattle.replay_core.proofs.low_order.LowOrder.new.Goals as goal

pub lowest_from-low-requires-clause-awaited : goal.lowest_from-low-requires-clause-awaited
lowest_from-low-requires-clause-awaited c = awaited_none _ _
