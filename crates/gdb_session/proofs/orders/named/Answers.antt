use Rattle.std.proofs.Common.{sym, ◌∙◌}
use Rattle.gdb_session.proofs.FrontLemmas.{named_here, named_nowhere, named_on}
use Rattle.gdb_session.proofs.orders.named.Goals as goal

pub returns-in-Some-clause-core : goal.returns-in-Some-clause-core
returns-in-Some-clause-core c =
    sym (c.loop-action.invariant ∙ named_here _ _ _ _ _ c.loop-action-test.true (sym c.in-Some.ensures.core))

pub loop-action-preserved : goal.loop-action-preserved
loop-action-preserved c =
    c.loop-action.invariant ∙ named_on _ _ _ _ c.loop-action-test.true (sym c.in_default.ensures.core)

pub returns-clause-core : goal.returns-clause-core
returns-clause-core c = sym (c.loop-action.invariant ∙ named_nowhere _ _ _ c.loop-action-test.false)
