use Rattle.msi_examples.proofs.ComputedValues.{all_so}
use Rattle.msi_examples.proofs.a_limit_is_reached.Goals as goal

pub returns : goal.returns
returns c = all_so.limit_reached
