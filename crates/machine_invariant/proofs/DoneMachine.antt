-- Once each core's program is done, nothing is under way and no move is enabled.
use Rattle.std.proofs.Common.{◌≡◌, refl, ◌*◌, true, false, not, ◌&&◌, []}
use Rattle.std.proofs.Common.{length}
use Rattle.access_times.specs.Riding.{Riding, Carrying}
use Rattle.rv_core.specs.Steps.{need, is_done}
use Rattle.msi_memory.specs.Acts.{waits}
use Rattle.msi_memory.specs.Memories.{port_at}
use Rattle.msi_state.specs.declared.moves.Move.{Move}
use Rattle.msi_state.specs.declared.moves.Move.TheVariants.{Core as CoreMove, Request as RequestMove}
use Rattle.msi_state.specs.declared.moves.Move.TheVariants.{Response as ResponseMove, FromHome as MessageMove}
use Rattle.msi_state.specs.Moves.{candidates}
use Rattle.msi_state.specs.States.{State, core_at, all_done}
use Rattle.msi_state.specs.Steps.{enabled, moves}
use Rattle.machine_invariant.specs.Holds.{MachineHolds}
use Rattle.msi_laws.proofs.MoveNumbers.{filter_none, not_enabled}
use Rattle.msi_laws.specs.Moving.{is_take}
use Rattle.msi_laws.proofs.TakenMessages.{none_taken}
use Rattle.msi_memory.specs.Acts.{Act, TakeRequest, TakeResponse, TakeMessage, can}
use Rattle.machine_invariant.proofs.DoneCores.{done_at, links_left}

module _ {R K : Type 0} where
  -- nothing can be taken from a link
  nothing_taken : (riding : Riding R) (carrying : Carrying K) (s : State R K) (act : Act R) →
      MachineHolds riding carrying s → all_done s ≡ true → is_take act ≡ true →
      can riding carrying s.memory act ≡ false
  nothing_taken riding carrying s act h done takes =
      none_taken riding carrying s.memory act takes (links_left riding carrying s h done)

  none_enabled : (riding : Riding R) (carrying : Carrying K) (s : State R K) → MachineHolds riding carrying s →
      all_done s ≡ true → (m : Move) →
      enabled riding carrying s m ≡ false
  none_enabled riding carrying s h done (CoreMove c) =
      not_enabled c (length s.cores) (not (is_done (need s.image (core_at s.cores c))) && not
      (waits (port_at carrying s.memory.ports c).cache))
      (λ within. rw (done_at s c done within) refl)
  none_enabled riding carrying s h done (RequestMove c) = nothing_taken riding carrying s (TakeRequest c) h done refl
  none_enabled riding carrying s h done (ResponseMove c) = nothing_taken riding carrying s (TakeResponse c) h done refl
  none_enabled riding carrying s h done (MessageMove c) = nothing_taken riding carrying s (TakeMessage c) h done refl

  pub moves_left : (riding : Riding R) (carrying : Carrying K) (s : State R K) → MachineHolds riding carrying s →
      all_done s ≡ true → moves riding carrying s ≡ []
  moves_left riding carrying s h done =
      filter_none (enabled riding carrying s) (candidates (length s.cores) (4 * length s.cores))
      (none_enabled riding carrying s h done)
