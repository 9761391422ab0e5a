use Rattle.msi_examples.proofs.ComputedValues.{all_so}
use Rattle.msi_examples.proofs.a_word_is_handed_over.Goals as goal

pub returns-clause-steps : goal.returns-clause-steps
returns-clause-steps c = all_so.one_hands_over

pub returns-clause-left : goal.returns-clause-left
returns-clause-left c = all_so.handed_over_so
