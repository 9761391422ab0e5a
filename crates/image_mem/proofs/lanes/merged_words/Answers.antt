use Rattle.image_mem.proofs.LaneLemmas.{merged-below, merged-whole}
use Rattle.image_mem.proofs.lanes.merged_words.Goals as goal

pub returns-clause-below : goal.returns-clause-below
returns-clause-below c old value first size = merged-below old value first size

pub returns-clause-whole : goal.returns-clause-whole
returns-clause-whole c one other value = merged-whole one other value
