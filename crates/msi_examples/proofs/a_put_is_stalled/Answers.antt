use Rattle.msi_examples.proofs.ComputedValues.{all_so}
use Rattle.msi_examples.proofs.a_put_is_stalled.Goals as goal

pub returns : goal.returns
returns c = all_so.put_is_stalled
