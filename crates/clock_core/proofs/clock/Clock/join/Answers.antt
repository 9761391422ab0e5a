use Rattle.std.proofs.Common.{◌∙◌, sym, arith}
use Rattle.clock_core.proofs.MergedClocks.{merged_is}
use Rattle.clock_core.proofs.clock.Clock.join.Goals as goal

pub returns-clause-value : goal.returns-clause-value
returns-clause-value c =
    let kept = c.loop-core.invariant in
    merged_is _ _ _ (kept.self_len ∙ sym kept.other_len) (kept.len
    ∙ sym kept.self_len) (λ i lt. kept.done i (omega arith))
