use Rattle.clock_core.proofs.Reach as proved
use Rattle.clock_core.proofs.laws.merge_law.Goals as goal

pub returns : goal.returns
returns c = proved.merge_law
