use Rattle.clock_core.proofs.EdgeLists as proved
use Rattle.clock_core.proofs.laws.among_law.Goals as goal

pub returns : goal.returns
returns c = proved.among_law
