use Rattle.conflict_edge.proofs.TwoForms as proved
use Rattle.conflict_edge.proofs.laws.source_law.Goals as goal

pub returns : goal.returns
returns c = proved.source_law
