use Rattle.rv_core.proofs.LawLemmas.{local_value_law, unwritten_law, value_law}
use Rattle.rv_core.proofs.laws.values_are_words.Goals as goal

pub returns-clause-local : goal.returns-clause-local
returns-clause-local c = local_value_law

pub returns-clause-unwritten : goal.returns-clause-unwritten
returns-clause-unwritten c = unwritten_law

pub returns-clause-value : goal.returns-clause-value
returns-clause-value c = value_law
