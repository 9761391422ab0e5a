use Rattle.conflict_edge.proofs.Reach as proved
use Rattle.conflict_edge.proofs.laws.online_law.Goals as goal

pub returns : goal.returns
returns c = proved.online_law
