use Rattle.conflict_edge.proofs.TwoForms as proved
use Rattle.conflict_edge.proofs.laws.independent_law.Goals as goal

pub returns : goal.returns
returns c = proved.independent_law
