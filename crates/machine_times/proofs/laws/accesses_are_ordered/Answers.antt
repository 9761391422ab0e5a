use Rattle.machine_times.proofs.ExactTimes.{ordered_law}
use Rattle.machine_times.proofs.laws.accesses_are_ordered.Goals as goal

pub returns : goal.returns
returns c = ordered_law
