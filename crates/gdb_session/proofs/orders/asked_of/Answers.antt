use Rattle.std.proofs.Common.{sym, ◌∙◌}
use Rattle.gdb_session.proofs.FrontLemmas.{asked_here, asked_nowhere, asked_on}
use Rattle.gdb_session.proofs.orders.asked_of.Goals as goal

pub returns-then-names : goal.returns-then-names
returns-then-names c =
    sym (c.loop-action.invariant ∙ asked_here _ _ _ _ c.loop-action-test.true (sym c.names.ensures ∙ c.if-names.true))

pub loop-action-preserved : goal.loop-action-preserved
loop-action-preserved c =
    c.loop-action.invariant ∙ asked_on _ _ _ _ c.loop-action-test.true (sym c.names.ensures ∙ c.if-names.false)

pub returns : goal.returns
returns c = sym (c.loop-action.invariant ∙ asked_nowhere _ _ _ c.loop-action-test.false)
