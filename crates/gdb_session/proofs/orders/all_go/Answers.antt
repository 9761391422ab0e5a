use Rattle.std.proofs.Common.{ℕ, Bool, ◌&&◌, sym, ap, ◌∙◌}
use Rattle.gdb_session.specs.Orders.{acts}
use Rattle.gdb_session.proofs.SetLemmas.{all_none, more_all}
use Rattle.gdb_session.proofs.orders.all_go.Goals as goal
use Rattle.gdb_session.proofs.orders.all_go.Goals.{then-all, else-all}

pub loop-core-init : goal.loop-core-init
loop-core-init c = all_none (acts c.args.actions.now)

pub loop-core-preserved : goal.loop-core-preserved
loop-core-preserved c =
    let one : ℕ → Bool = acts c.args.actions.now in
    elim c.if-all.branch [
      | then-all w ↦
          w.all-is ∙ w.acts-all.ensures
          ∙ sym (more_all one c.loop-core.core
          ∙ ap (λ (b : Bool). b && one c.loop-core.core) (sym c.loop-core.invariant ∙ w.if-all.true))
      | else-all w ↦
          w.all-is ∙ w.if-all.false
          ∙ sym (more_all one c.loop-core.core
          ∙ ap (λ (b : Bool). b && one c.loop-core.core) (sym c.loop-core.invariant ∙ w.if-all.false))
    ]
