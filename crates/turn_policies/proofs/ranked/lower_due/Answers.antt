use Rattle.std.proofs.Common.{◌≡◌, ◌∙◌, sym, suc, ◌+◌, ◌-◌, arith}
use Rattle.turn_policies.specs.Ranked.{points_due}
use Rattle.turn_policies.proofs.ChangedRanks.{lowered_step}
use Rattle.turn_policies.proofs.ranked.lower_due.Goals as goal

pub loop-done-preserved : goal.loop-done-preserved
loop-done-preserved c =
    let due = points_due c.args.points.now in
    let done = c.loop-done._done in
    let more = c.loop-done-test.true in
    let all = c.points_due-done-end.ensures in
    let is : due - done ≡ suc (due - (done + 1)) = omega (arith, more, all) in
    rw (c.lower.ensures, c.greatest_of-actor.ensures.value)
    (sym (lowered_step (due - done) (due - (done + 1)) c.args.actors c.loop-done.order is) ∙ c.loop-done.invariant)
