use Rattle.std.proofs.Common.{sym, ◌∙◌}
use Rattle.race_queries.proofs.AccessLemmas.{accessed_here, accessed_nowhere, accessed_on}
use Rattle.race_queries.proofs.conflicts.access_at.Goals as goal

pub returns-then-eq : goal.returns-then-eq
returns-then-eq c =
    accessed_here _ _ _ _ c.loop-access-test.true c.loop-access.invariant (sym c.eq.ensures ∙ c.if-eq.true)

pub loop-access-preserved : goal.loop-access-preserved
loop-access-preserved c =
    accessed_on _ _ _ _ c.loop-access-test.true c.loop-access.invariant (sym c.eq.ensures ∙ c.if-eq.false)

pub returns : goal.returns
returns c = accessed_nowhere _ _ _ c.loop-access-test.false c.loop-access.invariant
