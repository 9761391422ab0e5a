use Rattle.std.proofs.Common.{◌≡◌, ◌∙◌, sym, suc, ◌+◌, ◌-◌, length, arith}
use Rattle.turn_policies.proofs.ChangedRanks.{shuffled_step}
use Rattle.turn_policies.proofs.ranked.shuffle.Goals as goal

pub loop-done-preserved : goal.loop-done-preserved
loop-done-preserved c =
    let all = length c.args.actors.now in
    let done = c.loop-done.done in
    let more = c.loop-done-test.true in
    let is : all - done ≡ suc (all - (done + 1)) = omega (arith, more) in
    rw (c.exchange.ensures, c.below-other.ensures.words, c.below-other.ensures.value)
    (sym (shuffled_step c.args.actors.now (all - done) (all - (done + 1)) c.loop-done.words c.loop-done.order is)
    ∙ c.loop-done.invariant)
