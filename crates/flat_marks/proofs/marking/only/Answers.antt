use Rattle.std.proofs.Common.{◌∙◌, ap}
use Rattle.rtr_types.specs.CoreSets.{with_core}
use Rattle.rtr_types.specs.declared.core_set.CoreSet.{CoreSet}
use Rattle.flat_marks.proofs.NodeMarks.{only_core}
use Rattle.flat_marks.proofs.marking.only.Goals as goal

pub returns : goal.returns
returns c =
    only_core c.with.result c.args.core c.args._cores
    (c.with.ensures ∙ ap (λ (set : CoreSet). with_core set c.args.core) c.empty.ensures) c.requires.there c.requires.few
