use Rattle.machine_invariant.proofs.StartInvariant.{holds_start}
use Rattle.machine_invariant.proofs.MoveInvariant.{acts_can, holds_kept}
use Rattle.machine_invariant.proofs.InvariantPromise.{is_invariant}
use Rattle.machine_invariant.proofs.laws.every_step_keeps_it.Goals as goal

pub returns : goal.returns
returns g c = is_invariant holds_start acts_can holds_kept
