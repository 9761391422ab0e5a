-- What a move that can be made keeps of what a machine promises.
use Rattle.std.proofs.Common.{◌≡◌, true}
use Rattle.access_times.specs.Riding.{Riding, Carrying}
use Rattle.machine_ports.proofs.AtHand.{one_writer}
use Rattle.tso_bound.proofs.Capacity.{nearer}
use Rattle.tso_bound.proofs.StepPayments.{earns}
use Rattle.tso_data.proofs.WordSteps.{step_works}
use Rattle.tso_invariant.specs.Holds.{TsoHolds}
use Rattle.tso_invariant.proofs.MoveInvariant.{holds_kept}
use Rattle.tso_state.specs.declared.moves.Move.{Move}
use Rattle.tso_state.specs.States.{State}
use Rattle.tso_state.specs.Steps.{enabled, event, step}
use Rattle.tso_core.specs.Steppings.{KeepsPromises}

pub promises_kept : {R K : Type 0} (riding : Riding R) (carrying : Carrying K) (s : State R K) (m : Move) (rider : R) →
    enabled riding carrying s m ≡ true → TsoHolds riding carrying s →
    KeepsPromises riding carrying s (step riding carrying rider s m) (event riding carrying s m)
promises_kept riding carrying s m rider can_be holds =
    let after = holds_kept riding carrying s m rider can_be holds in
    record {
      earns = earns riding carrying s m rider can_be holds;
      nearer = nearer riding carrying s m rider can_be holds after;
      coherent = λ memory k. (step_works riding carrying s m rider memory can_be holds k).coherent;
      finds = λ memory k. (step_works riding carrying s m rider memory can_be holds k).finds;
      one_writer = one_writer riding carrying (step riding carrying rider s m).memory after.memory;
    }
