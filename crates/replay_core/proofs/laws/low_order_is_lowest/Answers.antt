use Rattle.replay_core.proofs.Low.{low_order_law as law, lowest_ordered as each, low_ordered as ordered}
use Rattle.replay_core.proofs.Low.{lowest_stuck as stuck}
use Rattle.replay_core.proofs.Fronts.{low_front as front, low_end as end}
use Rattle.replay_core.proofs.laws.low_order_is_lowest.Goals as goal

pub returns : goal.returns
returns c = record { lowest = law; each_ordered = each; ordered = ordered; stuck = stuck; front = front; end = end }
