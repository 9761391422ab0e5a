use Rattle.rv_core.proofs.LawLemmas.{within_law}
use Rattle.rv_core.proofs.laws.words_are_within.Goals as goal

pub returns : goal.returns
returns c = within_law
