use Rattle.hunt_runs.proofs.FlatEnds.{flat_few}
use Rattle.hunt_runs.proofs.flat.FlatRunHuntedMachine.restart.Goals as goal

pub returns-clause-few : goal.returns-clause-few
returns-clause-few c =
    flat_few c.in_ok-machine.machine.flat c.self.inside.machine.flat.program c.args.params
    c.in_ok-machine.ensures.stands
