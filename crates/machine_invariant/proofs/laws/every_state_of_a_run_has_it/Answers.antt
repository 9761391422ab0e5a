use Rattle.machine_invariant.proofs.StartInvariant.{holds_run}
use Rattle.machine_invariant.proofs.laws.every_state_of_a_run_has_it.Goals as goal

pub returns : goal.returns
returns c = holds_run
