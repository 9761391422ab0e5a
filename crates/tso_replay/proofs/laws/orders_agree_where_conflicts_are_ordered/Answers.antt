use Rattle.tso_replay.proofs.ToldReplays as laws_of
use Rattle.tso_replay.proofs.laws.orders_agree_where_conflicts_are_ordered.Goals as goal

pub returns : goal.returns
returns c = laws_of.ordered_agree
