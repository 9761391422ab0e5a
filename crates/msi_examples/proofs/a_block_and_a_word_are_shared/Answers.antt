use Rattle.msi_examples.proofs.ComputedValues.{all_so}
use Rattle.msi_examples.proofs.a_block_and_a_word_are_shared.Goals as goal

pub returns-clause-block : goal.returns-clause-block
returns-clause-block c = all_so.share_falsely

pub returns-clause-word : goal.returns-clause-word
returns-clause-word c = all_so.store_bytes
