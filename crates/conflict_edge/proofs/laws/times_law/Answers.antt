use Rattle.conflict_edge.proofs.Candidates as proved
use Rattle.conflict_edge.proofs.laws.times_law.Goals as goal

pub returns : goal.returns
returns c = proved.times_law
