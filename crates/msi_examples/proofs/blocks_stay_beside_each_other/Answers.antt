use Rattle.msi_examples.proofs.ComputedValues.{all_so}
use Rattle.msi_examples.proofs.blocks_stay_beside_each_other.Goals as goal

pub returns-clause-steps : goal.returns-clause-steps
returns-clause-steps c = all_so.both_blocks_are_held

pub returns-clause-left : goal.returns-clause-left
returns-clause-left c = all_so.read_eight_apart
