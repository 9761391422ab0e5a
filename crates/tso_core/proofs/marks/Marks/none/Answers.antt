use Rattle.std.proofs.Common.{◌∙◌, ap}
use Rattle.rtr_types.proofs.Members.{has-no_cores}
use Rattle.rtr_types.specs.CoreSets.{has}
use Rattle.rtr_types.specs.declared.core_set.CoreSet.{CoreSet}
use Rattle.tso_core.proofs.marks.Marks.none.Goals as goal

pub returns-clause-orders : goal.returns-clause-orders
returns-clause-orders c = λ k. ap (λ (s : CoreSet). has s k) c.empty.ensures ∙ has-no_cores k
