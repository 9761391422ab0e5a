use Rattle.conflict_edge.proofs.Candidates as proved
use Rattle.conflict_edge.proofs.laws.candidates_law.Goals as goal

pub returns : goal.returns
returns c = proved.candidates_law
