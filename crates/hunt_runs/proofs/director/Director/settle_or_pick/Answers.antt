use Rattle.std.proofs.Common.{◌∙◌, ap}
use Rattle.hunt_runs.specs.Directing.{Directed, to_settle}
use Rattle.hunt_runs.proofs.Decisions.{none_to_settle}
use Rattle.hunt_runs.proofs.director.Director.settle_or_pick.Goals as goal

pub returns-in-None-clause-decided : goal.returns-in-None-clause-decided
returns-in-None-clause-decided g c =
    let seen = g.M.HuntedMachine.seen c.args.machine.now in
    none_to_settle g.P.Policy.policy c.args.self.now seen c.args.enabled.actors c.to_settle.result
    (c.pick.result, c.pick.new.self) c.in-None.is
    (c.to_settle.ensures.value
    ∙ ap (λ (d : Directed g.row.P.Denot). to_settle d.turn seen) c.self.view_is) c.requires.actors c.pick.ensures.picked
