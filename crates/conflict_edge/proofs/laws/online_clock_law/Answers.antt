use Rattle.conflict_edge.proofs.Reach as proved
use Rattle.conflict_edge.proofs.laws.online_clock_law.Goals as goal

pub returns : goal.returns
returns c = proved.online_clock_law
