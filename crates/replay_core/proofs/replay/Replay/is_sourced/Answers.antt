use Rattle.std.proofs.Common.{◌≢◌, ap, arith, length}
use Rattle.replay_core.specs.Play.{instr}
use Rattle.replay_core.specs.Orders.{counts_in}
use Rattle.replay_core.specs.Answers.{UnderWay, IsMet}
use Rattle.replay_core.proofs.Sources.{apart, unmet, all_met, met_more}
use Rattle.replay_core.proofs.replay.Replay.is_sourced.Goals as goal
use Rattle.replay_core.proofs.replay.Replay.is_sourced.Goals.{else-of-core-via-then-of-core+else-not-is_met}
use Rattle.replay_core.proofs.replay.Replay.is_sourced.Goals.{else-of-core-via-else-of-core}

pub returns-then-not-is_met : goal.returns-then-not-is_met
returns-then-not-is_met c =
    unmet c.args.self.now.plan.edges (counts_in c.args.self.now.state) c.loop-of.of c.args.core c.args.count
    (λ met. let yes_it_is = c.is_met.ensures.1 met in
    let no_it_is_not = c.if-not-is_met.true in cc)

pub loop-of-preserved : goal.loop-of-preserved
loop-of-preserved c =
    met_more c.args.self.now.plan.edges (counts_in c.args.self.now.state) c.args.core c.loop-of.of
    (instr c.args.core c.args.count) c.loop-of.invariant here
  where
    here : c.loop-of.of ≢ c.args.core →
        IsMet c.args.self.now.plan.edges (counts_in c.args.self.now.state) c.loop-of.of (instr c.args.core c.args.count)
    here differ = elim c.else-of-core.branch [
      | else-of-core-via-then-of-core+else-not-is_met w ↦ w.is_met.ensures.0 w.if-not-is_met.false
      | else-of-core-via-else-of-core w ↦ absurd (differ w.if-of-core.false)
    ]

pub returns : goal.returns
returns c =
    let u = c.args.self.now in
    all_met u.plan.edges (counts_in u.state) c.args.core c.args.count (length u.plan.totals)
    (λ from has. apart c.self.inside.which c.self.inside.recording.now u.plan c.self.invariant.valid
    (ap (λ (v : UnderWay). v.plan) c.self.view_is) from
    (instr c.args.core c.args.count) has)
    (λ i below. c.loop-of.invariant i (omega (arith, c.cores-of-end.ensures.all, c.loop-of-test.false)))
