use Rattle.std.proofs.Common.{◌≡◌, refl, sym, ap, ◌∙◌, true≢false, false}
use Rattle.std.specs.List.{range_with_len}
use Rattle.std.specs.Prelude.{Bool, ℕ, List, length}
use Rattle.replay_core.specs.Plans.{Plan}
use Rattle.what_if.specs.Others.{left_by}
use Rattle.what_if.proofs.Tries.{left_start, round_on, stays_so}
use Rattle.what_if.proofs.going.round.Goals.{then-branch, else-branch}
use Rattle.what_if.proofs.going.round.Goals as goal

pub loop-core-init : goal.loop-core-init
loop-core-init c = record {
  plan = refl;
  state = sym (left_start c.args.replay.now.plan c.args.replay.now.state);
  idle = λ _. refl;
}

pub loop-core-preserved : goal.loop-core-preserved
loop-core-preserved c =
    let p = c.args.replay.now.plan in
    let s = c.args.replay.now.state in
    let one = c.in_ok-take.ensures.tried in
    record {
      plan = c.take.ensures.plan ∙ c.loop-core.invariant.plan;
      state = round_on p s c.loop-core.replay c.take.new.replay c.loop-core.core c.in_ok-take.field-0
          c.loop-core.invariant.plan c.loop-core.invariant.state one;
      idle = λ idle. elim c.if-branch.branch [
        | then-branch w ↦ absurd (true≢false (sym w.went-is ∙ idle))
        | else-branch w ↦
            stays_so c.loop-core.replay c.take.new.replay c.loop-core.core c.in_ok-take.field-0 one w.if-branch.false
            ∙ c.loop-core.invariant.idle (sym w.went-is ∙ idle)
      ];
    }
