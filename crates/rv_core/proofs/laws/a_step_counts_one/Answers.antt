use Rattle.rv_core.proofs.LawLemmas.{count_law, number_law, limit_law}
use Rattle.rv_core.proofs.laws.a_step_counts_one.Goals as goal

pub returns-clause-count : goal.returns-clause-count
returns-clause-count c = count_law

pub returns-clause-number : goal.returns-clause-number
returns-clause-number c = number_law

pub returns-clause-limit : goal.returns-clause-limit
returns-clause-limit c = limit_law
