use Rattle.machine_times.specs.TimedSteps.{times_parts}
use Rattle.machine_times.proofs.MetRiders.{meet_alike}
use Rattle.machine_times.proofs.laws.riders_meet_alike.Goals as goal

pub returns : goal.returns
returns g c = meet_alike times_parts g.K.Carry.carrying
