-- What each enabled move rests on: its message has a row, data let the access be made that waited for them, and each
-- link that it pushes to has room.
use Rattle.std.proofs.Common.{◌≡◌, ◌∙◌, refl, ap, ℕ, ◌<◌, Bool, true, false, not, ◌||◌, length, Option, IsTrue, arith}
use Rattle.access_times.specs.Riding.{Riding, Carrying}
use Rattle.rtr_types.proofs.Truths.{both_true}
use Rattle.rtr_types.specs.declared.access.Kind.{Kind}
use Rattle.rv_core.specs.Steps.{need, access_of as need_access}
use Rattle.msi_memory.specs.Acts.{TakeRequest, TakeResponse, TakeMessage, data_next}
use Rattle.msi_memory.specs.Memories.{port_at}
use Rattle.msi_memory.specs.Rests.{has_row_for as has_act_row}
use Rattle.msi_state.specs.declared.moves.Move.{Move}
use Rattle.msi_state.specs.declared.moves.Move.TheVariants.{Core as CoreMove, Request as RequestMove}
use Rattle.msi_state.specs.declared.moves.Move.TheVariants.{Response as ResponseMove, FromHome as MessageMove}
use Rattle.msi_state.specs.Events.{port_taken}
use Rattle.msi_state.specs.Rests.{may_access, has_row_for, HasRoomFor}
use Rattle.msi_state.specs.States.{State, core_at}
use Rattle.msi_state.specs.Steps.{enabled}
use Rattle.machine_invariant.specs.Holds.{MachineHolds}
use Rattle.msi_laws.proofs.Awaits.{data_granted}
use Rattle.machine_invariant.proofs.Awaits.{core_enabled, enabled_core, core_port}
use Rattle.msi_laws.specs.Ready.{IsReady}
use Rattle.msi_laws.proofs.Ready.{memory_ready}
use Rattle.msi_laws.proofs.Spaces.{no_requests}

module _ {R K : Type 0} where
  -- where data come, the access is allowed that waited for them
  access_waited : (riding : Riding R) (carrying : Carrying K) (s : State R K) (c : ℕ) →
      MachineHolds riding carrying s → c < length s.cores →
      IsTrue (not (data_next (port_at carrying s.memory.ports c).messages.items)
      || may_access (need_access (need s.image (core_at s.cores c))) riding
      (port_taken riding carrying (port_at carrying s.memory.ports c)))
  access_waited riding carrying s c h within =
      by_test (data_next (port_at carrying s.memory.ports c).messages.items) refl
    where
      by_test : (t : Bool) → data_next (port_at carrying s.memory.ports c).messages.items ≡ t →
          IsTrue (not t || may_access (need_access (need s.image (core_at s.cores c))) riding
          (port_taken riding carrying (port_at carrying s.memory.ports c)))
      by_test false e = refl
      by_test true e =
          let g = data_granted riding carrying s.memory c (need_access (need s.image (core_at s.cores c))) h.memory
          (core_port riding carrying s c h within) e (h.cores c within).awaited in
          ap (λ (needed : Option (Kind × ℕ)). may_access needed riding
          (port_taken riding carrying (port_at carrying s.memory.ports c))) g.needs ∙ g.allowed

  -- and the memory system is ready for the home's moves and for messages
  home_ready : (riding : Riding R) (carrying : Carrying K) (s : State R K) → MachineHolds riding carrying s →
      IsReady riding carrying s.memory
  home_ready riding carrying s h = memory_ready riding carrying s.memory h.memory

  pub rows_there : (riding : Riding R) (carrying : Carrying K) (s : State R K) (m : Move) →
      MachineHolds riding carrying s →
      IsTrue (enabled riding carrying s m) → IsTrue (has_row_for riding carrying s m)
  rows_there riding carrying s (CoreMove c) h e = refl
  rows_there riding carrying s (RequestMove c) h e = (home_ready riding carrying s h).rows (TakeRequest c) e
  rows_there riding carrying s (ResponseMove c) h e = (home_ready riding carrying s h).rows (TakeResponse c) e
  rows_there riding carrying s (MessageMove c) h e =
      both_true (has_act_row riding carrying s.memory (TakeMessage c)) _
      ((home_ready riding carrying s h).rows (TakeMessage c) e)
      (access_waited riding carrying s c h (enabled_core riding carrying s (MessageMove c) e h))

  pub rooms_there : (riding : Riding R) (carrying : Carrying K) (s : State R K) (m : Move) →
      MachineHolds riding carrying s →
      IsTrue (enabled riding carrying s m) → HasRoomFor riding carrying s m
  rooms_there riding carrying s (CoreMove c) h e =
      let w = core_enabled riding carrying s c e in
      let within = core_port riding carrying s c h w.core in
      rw (no_requests riding carrying s.memory c h.memory within w.still, (h.memory.ports c within).requests_room)
      (omega arith)
  rooms_there riding carrying s (RequestMove c) h e = (home_ready riding carrying s h).rooms (TakeRequest c) e
  rooms_there riding carrying s (ResponseMove c) h e = (home_ready riding carrying s h).rooms (TakeResponse c) e
  rooms_there riding carrying s (MessageMove c) h e = (home_ready riding carrying s h).rooms (TakeMessage c) e
