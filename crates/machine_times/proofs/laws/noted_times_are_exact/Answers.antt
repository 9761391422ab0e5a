use Rattle.machine_times.proofs.ExactTimes.{exact_times_law}
use Rattle.machine_times.proofs.laws.noted_times_are_exact.Goals as goal

pub returns : goal.returns
returns c = exact_times_law
