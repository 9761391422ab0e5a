-- Word by word the list has the memory's words, and then a 0 for each core.
use Rattle.replay_table.proofs.Openings.{copied_none, opening_more}
use Rattle.replay_table.proofs.table.opening.Goals as goal

pub loop-word-init : goal.loop-word-init
loop-word-init c = copied_none _ _ c.new-list.ensures.items

pub loop-core-preserved : goal.loop-core-preserved
loop-core-preserved c = opening_more _ _ _ _ c.in_ok-push-2.ensures.items c.loop-core.invariant
