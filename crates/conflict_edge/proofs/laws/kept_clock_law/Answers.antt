use Rattle.conflict_edge.proofs.Reach as proved
use Rattle.conflict_edge.proofs.laws.kept_clock_law.Goals as goal

pub returns : goal.returns
returns c = proved.kept_clock_law
