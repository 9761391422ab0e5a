use Rattle.std.proofs.Common.{arith}
use Rattle.hunt_runs.proofs.BufferedMarks.{actor_within, actors_are, actors_few, steps_are}
use Rattle.hunt_runs.proofs.buffered.BufferedMachineNoRiderNoCarryHuntedMachine.enabled.Goals as goal

pub overflow_cast-result : goal.overflow_cast-result
overflow_cast-result c = omega (arith, c.moves-marks.ensures.all.cores.cores, c.cores_are_numbered.ensures.few)

pub invariant_of-result : goal.invariant_of-result
invariant_of-result c = record {
  within = λ a is. actor_within _ _ c.args.self.now.state c.moves-marks.result c.moves-marks.ensures.all c.set_of.result
      c.set_of.ensures a is;
  listed = actors_few _ _ c.args.self.now.state c.moves-marks.result c.moves-marks.ensures.all c.set_of.result
      c.set_of.ensures c.count.result c.count-2.result c.count.ensures.value c.count-2.ensures.value;
  few = omega (arith, c.count.ensures.few, c.count-2.ensures.few);
}

pub returns-clause-actors : goal.returns-clause-actors
returns-clause-actors c =
    actors_are _ _ c.args.self.now.state c.moves-marks.result c.moves-marks.ensures.all c.set_of.result
    c.set_of.ensures (omega arith) (omega arith)

pub returns-clause-steps : goal.returns-clause-steps
returns-clause-steps c =
    steps_are _ _ c.args.self.now.state c.moves-marks.result c.moves-marks.ensures.all c.set_of.result
    c.set_of.ensures c.count.result c.count-2.result c.count.ensures.value c.count-2.ensures.value
    c.moves-marks.ensures.moves
