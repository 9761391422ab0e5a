use Rattle.run_records.proofs.ExactRuns.{exact_clocks, found_times, retired_clock}
use Rattle.run_records.proofs.laws.clocks_and_times_are_exact.Goals as goal

pub returns : goal.returns
returns c = record { clocks = exact_clocks; retired = retired_clock; times = found_times }
