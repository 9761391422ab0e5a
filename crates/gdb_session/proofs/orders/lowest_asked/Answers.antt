use Rattle.std.proofs.Common.{◌<◌, ℕ, sym, ap, subst, ◌∙◌}
use Rattle.std.specs.Prelude.{Option, IfSome}
use Rattle.gdb_session.specs.Orders.{is_asked, lower_of, lowest_where}
use Rattle.gdb_session.proofs.SetLemmas.{lower_within, more_lowest, no_lowest}
use Rattle.gdb_session.proofs.orders.lowest_asked.Goals as goal

pub loop-core-init : goal.loop-core-init
loop-core-init c = record { so_far = no_lowest (is_asked c.args.step c.args.actions.now); below = tt }

pub loop-core-preserved : goal.loop-core-preserved
loop-core-preserved c =
    let core = c.loop-core.core in
    let passes = c.is_asked.result in
    record {
      so_far = c.lower_of-lowest.ensures
          ∙ ap (λ (o : Option ℕ). lower_of o passes core) c.loop-core.invariant.so_far
          ∙ ap (λ b. lower_of (lowest_where (is_asked c.args.step c.args.actions.now) core) b core) c.is_asked.ensures
          ∙ sym (more_lowest (is_asked c.args.step c.args.actions.now) core);
      below = subst (λ (o : Option ℕ). IfSome o (λ k. k < c.args.cores)) (sym c.lower_of-lowest.ensures)
          (lower_within c.loop-core.lowest passes core c.args.cores c.loop-core.invariant.below c.loop-core-test.true);
    }
