use Rattle.conflict_edge.proofs.TwoForms as proved
use Rattle.conflict_edge.proofs.laws.one_least_law.Goals as goal

pub returns : goal.returns
returns c = proved.one_least_law
