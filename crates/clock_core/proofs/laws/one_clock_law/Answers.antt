use Rattle.clock_core.proofs.Reach as proved
use Rattle.clock_core.proofs.laws.one_clock_law.Goals as goal

pub returns : goal.returns
returns c = proved.one_clock_law
