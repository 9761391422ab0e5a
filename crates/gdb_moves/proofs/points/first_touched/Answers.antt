use Rattle.std.proofs.Common.{sym, ◌∙◌}
use Rattle.gdb_moves.proofs.FirstTouched.{touched_here, touched_nowhere, touched_on}
use Rattle.gdb_moves.proofs.points.first_touched.Goals as goal

pub returns-then-touches : goal.returns-then-touches
returns-then-touches c =
    let here = touched_here _ _ _ _ c.loop-point-test.true (sym c.touches.ensures ∙ c.if-touches.true) in
    sym (c.loop-point.invariant ∙ here)

pub loop-point-preserved : goal.loop-point-preserved
loop-point-preserved c =
    c.loop-point.invariant ∙ touched_on _ _ _ _ c.loop-point-test.true (sym c.touches.ensures ∙ c.if-touches.false)

pub returns : goal.returns
returns c = sym (c.loop-point.invariant ∙ touched_nowhere _ _ _ c.loop-point-test.false)
