use Rattle.std.proofs.Common.{◌≡◌, List, ℕ, true, sym, subst, ◌∙◌}
use Rattle.gdb_moves.specs.Ranges.{goes_on}
use Rattle.gdb_moves.specs.declared.points.Point.{Point}
use Rattle.gdb_moves.proofs.RangeLemmas.{step_more}
use Rattle.gdb_moves.proofs.hearing.Hearing.step_in.Goals as goal

pub loop-taken-preserved : goal.loop-taken-preserved
loop-taken-preserved c =
    let on = sym c.goes_on.ensures ∙ c.if-not-goes_on.false in
    step_more _ _ _ _ _ _ _ _ c.loop-taken.invariant c.in_ok-stop.ensures.kept c.in_ok-stop.ensures.steps
    (subst (λ (n : ℕ). goes_on c.args.range c.args.self.now.points c.args.core n c.step_core.new.place
    c.in_ok-stop.stop ≡ true) c.count_of-before.ensures
    (subst (λ (l : List Point). goes_on c.args.range l c.args.core c.count_of-before.result c.step_core.new.place
    c.in_ok-stop.stop ≡ true) c.all.ensures on))
