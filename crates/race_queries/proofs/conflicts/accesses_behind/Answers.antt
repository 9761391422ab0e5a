use Rattle.std.proofs.Common.{◌+◌, ◌-◌, length, length-drop, sym, ◌∙◌, arith}
use Rattle.race_queries.proofs.ConflictLemmas.{behind_here, behind_nowhere, behind_on}
use Rattle.race_queries.proofs.conflicts.accesses_behind.Goals as goal

pub returns-then-eq : goal.returns-then-eq
returns-then-eq c =
    let list = c.args.accesses.now in
    let k = c.loop-k.k in
    behind_here c.args.at list k _ c.loop-k.invariant c.loop-k-test.true (sym c.eq.ensures ∙ c.if-eq.true)
    (length list - (k + 1)) (omega (arith, length-drop (k + 1) list))

pub loop-k-preserved : goal.loop-k-preserved
loop-k-preserved c =
    behind_on c.args.at c.args.accesses.now c.loop-k.k _ c.loop-k.invariant c.loop-k-test.true
    (sym c.eq.ensures ∙ c.if-eq.false)

pub returns : goal.returns
returns c = behind_nowhere c.args.at c.args.accesses.now c.loop-k.k c.loop-k.invariant c.loop-k-test.false
