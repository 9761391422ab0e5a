use Rattle.std.proofs.Common.{sym, ap, ◌∙◌}
use Rattle.rtr_types.specs.CoreSets.{with_core}
use Rattle.rtr_types.specs.declared.core_set.CoreSet.{CoreSet}
use Rattle.gdb_session.specs.Orders.{acts}
use Rattle.gdb_session.proofs.SetLemmas.{none_where, with_more, without_more}
use Rattle.gdb_session.proofs.orders.heard_of.Goals as goal
use Rattle.gdb_session.proofs.orders.heard_of.Goals.{then-acts, else-acts}

pub loop-core-init : goal.loop-core-init
loop-core-init c = c.empty-set.ensures ∙ none_where (acts c.args.actions.now)

pub loop-core-preserved : goal.loop-core-preserved
loop-core-preserved c = elim c.if-acts.branch [
  | then-acts w ↦
      w.set-is ∙ w.with-set.ensures ∙ ap (λ (s : CoreSet). with_core s c.loop-core.core) c.loop-core.invariant
      ∙ sym (with_more (acts c.args.actions.now) c.loop-core.core (sym c.acts.ensures ∙ w.if-acts.true))
  | else-acts w ↦
      w.set-is ∙ c.loop-core.invariant
      ∙ sym (without_more (acts c.args.actions.now) c.loop-core.core (sym c.acts.ensures ∙ w.if-acts.false))
]
