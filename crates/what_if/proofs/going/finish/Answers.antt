use Rattle.std.proofs.Common.{◌≡◌, ◌+◌, ◌-◌, refl, sym, ap, ◌∙◌, arith}
use Rattle.replay_core.specs.Plans.{Plan}
use Rattle.rv_core.specs.declared.outcome.Outcome.{Outcome}
use Rattle.what_if.specs.Others.{round, rounds}
use Rattle.what_if.proofs.Tries.{no_rounds, round_more, rounds_idle}
use Rattle.what_if.proofs.going.finish.Goals as goal

pub returns-then-not-branch-clause-state : goal.returns-then-not-branch-clause-state
returns-then-not-branch-clause-state c =
    let p = c.args.replay.now.plan in
    let here = c.loop-turn.replay.state in
    let idle = c.in_ok-round.ensures.round.idle c.if-not-branch.true in
    let same : round p here ≡ here =
    ap (λ (q : Plan). round q here) (sym c.loop-turn.invariant.plan)
    ∙ sym c.in_ok-round.ensures.round.state ∙ idle in
    idle ∙ sym (rounds_idle p here (c.args.most - c.loop-turn.turn) same) ∙ c.loop-turn.invariant.state

pub loop-turn-preserved : goal.loop-turn-preserved
loop-turn-preserved c =
    let p = c.args.replay.now.plan in
    let here = c.loop-turn.replay.state in
    let left = c.args.most - (c.loop-turn.turn + 1) in
    record {
      plan = c.round.ensures.plan ∙ c.loop-turn.invariant.plan;
      state = ap (λ (t : Outcome). rounds p t left)
          (c.in_ok-round.ensures.round.state ∙ ap (λ (q : Plan). round q here) c.loop-turn.invariant.plan)
          ∙ sym (round_more p here (c.args.most - c.loop-turn.turn) left (omega arith))
          ∙ c.loop-turn.invariant.state;
    }

pub returns-clause-state : goal.returns-clause-state
returns-clause-state c =
    sym (no_rounds c.args.replay.now.plan c.loop-turn.replay.state (c.args.most - c.loop-turn.turn) (omega arith))
    ∙ c.loop-turn.invariant.state
