use Rattle.std.proofs.Common.{ap, subst, sym}
use Rattle.std.specs.List.{Contains}
use Rattle.replay_core.specs.Plans.{Plan}
use Rattle.replay_core.specs.Play.{instr}
use Rattle.replay_core.specs.Answers.{UnderWay}
use Rattle.replay_core.specs.Orders.{counts_in}
use Rattle.replay_core.proofs.Sources.{met_some, met_none}
use Rattle.replay_core.proofs.replay.Replay.is_met.Goals as goal

pub returns-in-Some : goal.returns-in-Some
returns-in-Some c =
    let plan_is = ap (λ (u : UnderWay). u.plan) c.self.view_is in
    met_some c.args.self.now.plan.edges (counts_in c.args.self.now.state) c.args.of c.in-Some.count c.count.result
    c.args.at c.count.ensures
    (subst (λ (p : Plan). Contains p.edges (record { from = instr c.args.of c.in-Some.count; to = c.args.at })) plan_is
    c.in-Some.ensures.found)
    (λ a has. c.in-Some.ensures.only a
    (subst (λ (p : Plan). Contains p.edges (record { from = instr c.args.of a; to = c.args.at })) (sym plan_is)
    has))

pub returns-in-None : goal.returns-in-None
returns-in-None c =
    let plan_is = ap (λ (u : UnderWay). u.plan) c.self.view_is in
    met_none c.args.self.now.plan.edges (counts_in c.args.self.now.state) c.args.of c.args.at
    (λ a has. c.in-None.ensures.only a
    (subst (λ (p : Plan). Contains p.edges (record { from = instr c.args.of a; to = c.args.at })) (sym plan_is)
    has))
