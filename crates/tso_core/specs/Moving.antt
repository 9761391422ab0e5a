-- What a move makes of the state, and what it tells a clerk.
use Rattle.std.specs.Prelude.{◌≡◌, ℕ}
use Rattle.access_times.specs.Riding.{Riding, Carrying}
use Rattle.rtr_types.specs.declared.access.Access.{Access}
use Rattle.rtr_types.specs.declared.instr.Instr.{Instr}
use Rattle.msi_memory.specs.Memories.{port_at}
use Rattle.msi_state.specs.Events.{rider_of_event}
use Rattle.tso_state.specs.declared.moves.Move.{Move}
use Rattle.tso_state.specs.Moves.{core_of}
use Rattle.tso_state.specs.States.{State}
use Rattle.tso_state.specs.Steps.{event, step, told}
use Rattle.tso_data.specs.Orders.{ordering_of}
use Rattle.tso_times.specs.Timed.{ordering_port}
use Rattle.tso_clerk.specs.Telling.{AcceptsAll, TellsAll}
use Rattle.tso_core.specs.Machineries.{Machinery}

module _ {R K : Type 0} where
  -- the rider that the access which a move orders finds on its copy
  abbrev pub rider_found : Riding R → Carrying K → State R K → Move → R
  rider_found riding carrying s m =
      rider_of_event riding (ordering_of (event riding carrying s m)) (ordering_port riding carrying s m)

  -- the rider that a move left on the copy that its access touched, read in the state after it
  abbrev pub rider_left : Riding R → Carrying K → State R K → State R K → Move → R
  rider_left riding carrying old new m =
      rider_of_event riding (ordering_of (event riding carrying old m)) (port_at carrying new.memory.ports (core_of m))

  -- the new state is the old one after the move, with the rider that was left on the copy that it touched
  abbrev pub StepsTo : Riding R → Carrying K → (old new : State R K) → Move → Type 0
  StepsTo riding carrying old new m = new ≡ step riding carrying (rider_left riding carrying old new m) old m

  -- what the clerk's calls do to it, once it was told of the move that made the new state of the old
  abbrev pub TellsOf : {C : Type 0} → (C → Instr → K → C → Type 0) → (C → R → Access → K → C → R → Type 0)
      → (C → Instr → ℕ → ℕ → K → C → Type 0) → Riding R → Carrying K → (old new : State R K) → Move
      → (before after : C) → Type 0
  TellsOf local touch logged riding carrying old new m before after =
      TellsAll local touch logged carrying (told riding carrying old m) (ordering_port riding carrying old m).carry
      before (rider_found riding carrying old m) after (rider_left riding carrying old new m)

  -- the clerk accepts all that the move tells
  abbrev pub AcceptsOf : {C : Type 0} → (C → Instr → Type 0) → (C → Instr → Type 0) → (C → Instr → K → C → Type 0)
      → (C → R → Access → K → C → R → Type 0) → (C → Instr → ℕ → ℕ → K → C → Type 0) → Riding R → Carrying K
      → State R K → Move → C → Type 0
  AcceptsOf accepts accepts_alone local touch logged riding carrying s m clerk =
      AcceptsAll accepts accepts_alone local touch logged carrying (told riding carrying s m)
      (ordering_port riding carrying s m).carry clerk (rider_found riding carrying s m)

  -- the move made the new machine of the old: it told the clerk what it tells, and no block of the home got room
  pub record Makes {C : Type 0} (local : C → Instr → K → C → Type 0) (touch : C → R → Access → K → C → R → Type 0)
      (logged : C → Instr → ℕ → ℕ → K → C → Type 0) (riding : Riding R) (carrying : Carrying K)
      (old new : Machinery R K) (m : Move) (before after : C) : Type 0 where
    pub state : StepsTo riding carrying old.state new.state m
    pub rooms : new.rooms ≡ old.rooms
    pub told : TellsOf local touch logged riding carrying old.state new.state m before after
