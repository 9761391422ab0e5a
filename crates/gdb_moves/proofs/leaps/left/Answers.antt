use Rattle.std.proofs.Common.{◌≡◌, ◌∙◌, ◌+◌, ◌<◌, ℕ, sym, ap, subst, arith}
use Rattle.cut_replay.specs.ClosedCuts.{IsGreatestWithout}
use Rattle.replay_core.specs.Play.{instr}
use Rattle.rtr_types.specs.declared.cut.Cut.{Cut}
use Rattle.gdb_moves.proofs.Gathered.{IsLeftTo, left_by, left_on, without_there}
use Rattle.gdb_moves.proofs.leaps.left.Goals as goal
use Rattle.gdb_moves.proofs.leaps.left.Goals.{then-has+then-count-cut+in_ok-without, then-has+else-count-cut, else-has}

pub loop-core-preserved : goal.loop-core-preserved
loop-core-preserved c =
    let core = c.loop-core.core in
    elim c.if-has.branch [
      | then-has+then-count-cut+in_ok-without w ↦
          subst (λ (k : Cut). IsLeftTo c.args.cores c.args.place.now c.args.number (core + 1) k)
          (sym (w.cut-is ∙ w.intersection-cut.ensures))
          (left_on _ _ _ _ _ c.loop-core.invariant w.in_ok-without.without (w.among-count.result + 1)
          (sym c.has.ensures ∙ w.if-has.true) (ap (λ (n : ℕ). n + 1) w.among-count.ensures)
          (without_there c.args.audited.now c.args.place.now c.requires core (w.among-count.result + 1)
          w.in_ok-without.without w.in_ok-without.ensures))
      | then-has+else-count-cut w ↦
          subst (λ (k : Cut). IsLeftTo c.args.cores c.args.place.now c.args.number (core + 1) k) (sym w.cut-is)
          (left_by _ _ _ _ _ c.loop-core.invariant
          (λ one. let less = w.if-count-cut.false in let is = w.among-count.ensures in omega arith))
      | else-has w ↦
          subst (λ (k : Cut). IsLeftTo c.args.cores c.args.place.now c.args.number (core + 1) k) (sym w.cut-is)
          (left_by _ _ _ _ _ c.loop-core.invariant
          (λ one. let no_more = sym one ∙ sym c.has.ensures ∙ w.if-has.false in absurd cc))
    ]
