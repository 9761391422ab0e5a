use Rattle.msi_examples.proofs.ComputedValues.{all_so}
use Rattle.msi_examples.proofs.a_word_is_added_to.Goals as goal

pub returns : goal.returns
returns c = all_so.sum_in_turn
