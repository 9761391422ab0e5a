use Rattle.rv_core.proofs.LawLemmas.{start_law}
use Rattle.rv_core.proofs.laws.a_core_starts_at_0.Goals as goal

pub returns : goal.returns
returns c = start_law
