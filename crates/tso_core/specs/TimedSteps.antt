-- What a step promises where riders record times: by the accesses that were ordered so far, newest first, each with the
-- clock that was noted for it.
use Rattle.std.specs.Prelude.{◌≡◌, ℕ, List, [], ◌∷◌}
use Rattle.access_times.specs.Riding.{Carrying}
use Rattle.access_times.specs.Times.{times_riding}
use Rattle.access_times.specs.declared.times.Times.{Times}
use Rattle.clock_core.specs.declared.clock.Clock.{Clock}
use Rattle.rtr_types.specs.declared.access.Access.{Access}
use Rattle.machine_times.specs.History.{NotedAccess}
use Rattle.machine_times.specs.Retirements.{IsExactRider}
use Rattle.machine_times.specs.TimedSteps.{times_parts}
use Rattle.msi_state.specs.Events.{Accesses}
use Rattle.tso_state.specs.declared.moves.Move.{Move}
use Rattle.tso_state.specs.Events.{Told, Alone, Ordered, Logged}
use Rattle.tso_state.specs.States.{State}
use Rattle.tso_state.specs.Steps.{event, told}
use Rattle.tso_data.specs.Orders.{ordering_of}
use Rattle.tso_times.specs.Timed.{StandsAfter, ordering_port}
use Rattle.tso_core.specs.Moving.{rider_found, rider_left}

-- the rider that the clerk is handed with the access that a move orders is exact for it after these
abbrev pub StepFinds : {K : Type 0} → Carrying K → State Times K → Move → List NotedAccess → Type 0
StepFinds carrying s m h =
    (a : Access) → ordering_of (event times_riding carrying s m) ≡ Accesses a
    → IsExactRider times_parts h a (rider_found times_riding carrying s m)

-- what a clerk's call for an access does to it, and the clock of each core that it has
module _ {C K : Type 0} (touch : C → Times → Access → K → C → Times → Type 0) (clock : C → ℕ → Clock) where
  -- the riders of the state have the times of these accesses and of the one that was told, where the first that was
  -- told is one: it is noted with the clock that the clerk had for its core once it was told of it
  abbrev pub StandsTold : Carrying K → List Told → K → (before : C) → (found left : Times) → List NotedAccess
      → State Times K → Type 0
  StandsTold carrying [] carry before found left h s = StandsAfter times_parts carrying h s
  StandsTold carrying (Alone at ∷ later) carry before found left h s = StandsAfter times_parts carrying h s
  StandsTold carrying (Ordered a ∷ later) carry before found left h s =
      (once : C) × touch before found a (carrying.retired carry a.at) once left
      × StandsAfter times_parts carrying (record { access = a; clock = clock once a.at.core } ∷ h) s
  StandsTold carrying (Logged at word value ∷ later) carry before found left h s =
      StandsAfter times_parts carrying h s

  -- and so it is with what a move tells, in the state that it made
  abbrev pub StandsMoved : Carrying K → (old new : State Times K) → Move → (before : C) → List NotedAccess → Type 0
  StandsMoved carrying old new m before h =
      StandsTold carrying (told times_riding carrying old m) (ordering_port times_riding carrying old m).carry before
      (rider_found times_riding carrying old m) (rider_left times_riding carrying old new m) h new
