use Rattle.hunt_runs.proofs.FlatEnds.{flat_few}
use Rattle.hunt_runs.proofs.flat.FlatRunHuntedMachine.start.Goals as goal

pub returns-clause-few : goal.returns-clause-few
returns-clause-few c =
    flat_few c.in_ok-machine.machine.flat c.args.program c.args.params c.in_ok-machine.ensures.stands
