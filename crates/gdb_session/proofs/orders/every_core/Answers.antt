use Rattle.std.proofs.Common.{true, refl, sym, ap, ◌∙◌}
use Rattle.rtr_types.specs.CoreSets.{with_core}
use Rattle.rtr_types.specs.declared.core_set.CoreSet.{CoreSet}
use Rattle.gdb_session.proofs.SetLemmas.{none_where, with_more}
use Rattle.gdb_session.proofs.orders.every_core.Goals as goal

pub loop-core-init : goal.loop-core-init
loop-core-init c = c.empty-set.ensures ∙ none_where (λ core. true)

pub loop-core-preserved : goal.loop-core-preserved
loop-core-preserved c =
    c.with-set.ensures ∙ ap (λ (s : CoreSet). with_core s c.loop-core.core) c.loop-core.invariant
    ∙ sym (with_more (λ core. true) c.loop-core.core refl)
