use Rattle.std.proofs.Common.{ℕ, ◌+◌, List, [], ◌∷◌, ◌++◌, sym, ap, ◌∙◌}
use Rattle.rtr_types.proofs.Ranges.{map_range_more}
use Rattle.rtr_types.specs.declared.instr.Instr.{Instr}
use Rattle.replay_core.specs.Play.{instr}
use Rattle.race_answers.proofs.traces.stretch.Goals as goal

pub loop-k-preserved : goal.loop-k-preserved
loop-k-preserved c =
    let one : ℕ → Instr = λ k. instr c.args.core (c.args.from + k + 1) in
    c.in_ok-push.ensures.ok
    ∙ ap (λ (l : List Instr). l ++ one c.loop-k.k ∷ []) c.loop-k.invariant
    ∙ sym (map_range_more one c.loop-k.k)
