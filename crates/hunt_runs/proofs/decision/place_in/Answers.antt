use Rattle.std.proofs.Common.{arith}
use Rattle.hunt_runs.proofs.StepPlaces.{bits_fit, member_few, place_is, place_within}
use Rattle.hunt_runs.proofs.decision.place_in.Goals as goal

pub overflow_shl-core : goal.overflow_shl-core
overflow_shl-core c = omega (arith, member_few c.args.set c.args.core (omega arith) c.requires)

pub overflow_sub-core : goal.overflow_sub-core
overflow_sub-core c = (bits_fit c.args.core (member_few c.args.set c.args.core (omega arith) c.requires)).0

pub overflow_cast-core-2 : goal.overflow_cast-core-2
overflow_cast-core-2 c =
    omega (arith, (bits_fit c.args.core (member_few c.args.set c.args.core (omega arith) c.requires)).1)

pub returns-clause-value : goal.returns-clause-value
returns-clause-value c =
    let few = member_few c.args.set c.args.core (omega arith) c.requires in
    place_is c.args.set c.args.core c.count.result (omega (arith, few)) c.count.ensures.value

pub returns-clause-within : goal.returns-clause-within
returns-clause-within c =
    let few = member_few c.args.set c.args.core (omega arith) c.requires in
    place_within c.args.set c.args.core c.count.result few c.requires c.count.ensures.value
