use Rattle.msi_examples.proofs.ComputedValues.{all_so}
use Rattle.msi_examples.proofs.a_choice_decides.Goals as goal

pub returns : goal.returns
returns c = all_so.choice_decides
