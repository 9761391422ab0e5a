use Rattle.hunt_runs.proofs.Decisions.{delivers, none_delivered}
use Rattle.hunt_runs.proofs.director.Director.decide.Goals as goal

pub returns-in-Some-clause-decided : goal.returns-in-Some-clause-decided
returns-in-Some-clause-decided g c =
    delivers g.P.Policy.policy c.args.self.now (g.M.HuntedMachine.seen c.args.machine.now)
    c.enabled-enabled.result.actors
    c.enabled-enabled.result.steps c.in-Some.number c.core_at_work.result c.last_message.result c.in-Some.is
    c.last_message.ensures c.enabled-enabled.ensures.actors c.enabled-enabled.ensures.steps c.core_at_work.ensures

pub returns-in-None-clause-decided : goal.returns-in-None-clause-decided
returns-in-None-clause-decided g c =
    none_delivered g.P.Policy.policy c.args.self.now (g.M.HuntedMachine.seen c.args.machine.now)
    c.enabled-enabled.result.actors c.enabled-enabled.result.steps c.last_message.result
    (c.act_or_settle.result, c.act_or_settle.new.self) c.in-None.is c.last_message.ensures
    c.enabled-enabled.ensures.actors c.enabled-enabled.ensures.steps c.act_or_settle.ensures.decided
