use Rattle.std.proofs.Common.{◌∙◌, ap}
use Rattle.rtr_types.specs.CoreSets.{has}
use Rattle.rtr_types.specs.declared.core_set.CoreSet.{CoreSet}
use Rattle.msi_machine.proofs.CoreMoveNumber.{own_numbered}
use Rattle.msi_machine.proofs.marks.Marks.number_of_core.Goals as goal

pub number_in-requires-clause-member : goal.number_in-requires-clause-member
number_in-requires-clause-member c =
    ap (λ (s : CoreSet). has s c.args.core) c.set_of.ensures ∙ c.requires.marked

pub returns-clause-within : goal.returns-clause-within
returns-clause-within c =
    (own_numbered c.args.self _ c.args.core _ c.set_of.ensures c.number_in.ensures.within c.number_in.ensures.value).0

pub returns-clause-value : goal.returns-clause-value
returns-clause-value c =
    (own_numbered c.args.self _ c.args.core _ c.set_of.ensures c.number_in.ensures.within c.number_in.ensures.value).1
