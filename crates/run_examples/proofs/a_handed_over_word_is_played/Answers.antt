use Rattle.run_examples.proofs.HandingOver.{in_order, by_play}
use Rattle.run_examples.proofs.a_handed_over_word_is_played.Goals as goal

pub returns-clause-order : goal.returns-clause-order
returns-clause-order c = in_order

pub returns-clause-play : goal.returns-clause-play
returns-clause-play c = by_play
