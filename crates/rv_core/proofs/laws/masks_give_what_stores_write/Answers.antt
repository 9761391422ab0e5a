use Rattle.rv_core.proofs.Masks.{mask_law, within_mask}
use Rattle.rv_core.proofs.laws.masks_give_what_stores_write.Goals as goal

pub returns-clause-writes : goal.returns-clause-writes
returns-clause-writes c = mask_law

pub returns-clause-within : goal.returns-clause-within
returns-clause-within c = within_mask
