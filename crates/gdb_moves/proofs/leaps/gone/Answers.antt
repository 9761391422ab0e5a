use Rattle.std.proofs.Common.{◌≡◌, ◌∙◌, ◌+◌, ◌<◌, ℕ, max, refl, sym, ap, subst, arith}
use Rattle.rtr_types.specs.declared.cut.Cut.{Cut}
use Rattle.gdb_moves.proofs.Gathered.{IsGathered, gathered_by, gathered_on, gathered_end, hull_there, few_among, ok_too}
use Rattle.race_log.specs.declared.recording.Recording.{Recording}
use Rattle.race_log.specs.Validity.{Valid}
use Rattle.std.proofs.lemmas.Result.{IfOk-weaker}
use Rattle.cut_replay.specs.ClosedCuts.{count_in}
use Rattle.gdb_moves.proofs.leaps.gone.Goals as goal
use Rattle.gdb_moves.proofs.leaps.gone.Goals.{then-has, else-has}

pub loop-core-preserved : goal.loop-core-preserved
loop-core-preserved c =
    elim c.if-has.branch [
      | then-has w ↦
          subst (λ (k : Cut). IsGathered c.args.cores c.args.place.now c.args.number (c.loop-core.core + 1) k)
          (sym w.counts-is)
          (gathered_on _ _ _ _ _ c.loop-core.invariant _ w.max.result (sym c.has.ensures ∙ w.if-has.true)
          (let all = c.cores-core-end.ensures in let below = c.loop-core-test.true in omega arith)
          (subst (λ (r : Recording). Valid r) c.requires.recording c.recording.ensures.valid)
          (few_among c.args.place.now c.args.number c.loop-core.core) refl refl
          (w.max.ensures ∙ ap (λ (n : ℕ). max (count_in c.loop-core.counts c.loop-core.core) n)
          w.among-among.ensures))
      | else-has w ↦
          subst (λ (k : Cut). IsGathered c.args.cores c.args.place.now c.args.number (c.loop-core.core + 1) k)
          (sym w.counts-is)
          (gathered_by _ _ _ _ _ c.loop-core.invariant
          (λ one. let no_more = sym one ∙ sym c.has.ensures ∙ w.if-has.false in absurd cc))
    ]

pub returns : goal.returns
returns c =
    IfOk-weaker c.hull.result _ _
    (λ to is. gathered_end _ _ _ _ _ to c.loop-core.invariant
    (subst (λ (r : Recording). Valid r) c.requires.recording c.recording.ensures.valid)
    (let all = c.cores-core-end.ensures in let end = c.loop-core-test.false in omega arith)
    (hull_there c.args.audited.now c.args.place.now c.requires c.loop-core.counts to is))
    (ok_too c.hull.result _ c.hull.ensures)
