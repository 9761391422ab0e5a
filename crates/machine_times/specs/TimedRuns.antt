-- Runs of a machine with times: any moves one after the other, each with the clock that is noted for what it retires.
use Rattle.std.specs.Prelude.{ℕ, ◌<◌, ◌≤◌, ◌^◌, List, [], ◌∷◌, IsTrue, if◌then◌else◌}
use Rattle.access_times.specs.Riding.{Carrying}
use Rattle.access_times.specs.Times.{fresh_times, times_noted, times_riding}
use Rattle.access_times.specs.declared.times.Times.{Times}
use Rattle.clock_core.specs.declared.clock.Clock.{Clock}
use Rattle.image_mem.specs.Contents.{Contents}
use Rattle.rtr_types.specs.declared.TheConstants.{CORES_MAX}
use Rattle.msi_state.specs.Events.{Event, Accesses}
use Rattle.msi_state.specs.States.{State, state_start}
use Rattle.msi_state.specs.Steps.{enabled, event, retiring, step}
use Rattle.msi_memory.specs.declared.port.Port.{Port}
use Rattle.msi_memory.specs.Memories.{rider_at}
use Rattle.msi_state.specs.declared.moves.Move.{Move}
use Rattle.machine_times.specs.Absorbing.{MeetsAlike}
use Rattle.machine_times.specs.Retirements.{Retirement, MachineStandsFor, with_event}
use Rattle.machine_times.specs.TimedSteps.{StepFinds, times_parts}

-- a move, and the clock that is noted for what it retires
pub record TimedMove : Type 0 where
  pub move : Move
  pub clock : Clock

-- a state of such a run, and the retirements so far
pub record TimedState (K : Type 0) : Type 0 where
  pub state : State Times K
  pub list : List Retirement

module _ {K : Type 0} where
  -- the rider that an event leaves on the copy that its access touches: the one there, with the access noted
  abbrev pub rider_noted : Event → Port Times K → Clock → Times
  rider_noted (Accesses a) port clock = times_noted a (rider_at times_riding port a.word) clock
  rider_noted _ port clock = fresh_times

  -- the state after the move, where it can be made
  abbrev pub timed_taking : Carrying K → TimedState K → TimedMove → TimedState K
  timed_taking carrying t m =
      let e = event times_riding carrying t.state m.move in
      let rider = rider_noted e (retiring times_riding carrying t.state m.move) m.clock in
      if enabled times_riding carrying t.state m.move
      then record { state = step times_riding carrying rider t.state m.move; list = with_event e m.clock t.list }
      else t

  abbrev pub timed_run : Carrying K → TimedState K → List TimedMove → TimedState K
  timed_run carrying t [] = t
  timed_run carrying t (m ∷ ms) = timed_run carrying (timed_taking carrying t m) ms

  abbrev pub timed_start : Carrying K → Contents → (cores limit : ℕ) → TimedState K
  timed_start carrying image cores limit =
      record { state = state_start times_riding carrying image cores limit; list = [] }

-- the state stands for its retirements; each access that can be made finds exact times by them; and riders
-- that meet have the same last writes
pub record IsTimely {K : Type 0} (carrying : Carrying K) (t : TimedState K) : Type 0 where
  pub stands : MachineStandsFor times_parts carrying t.list t.state
  pub finds : (m : Move) → IsTrue (enabled times_riding carrying t.state m) → StepFinds carrying t.state m t.list
  pub alike : (m : Move) → IsTrue (enabled times_riding carrying t.state m) → MeetsAlike times_parts carrying t.state m

-- Each state of each run is so, whatever clocks are noted.
abbrev pub TimedRunLaw : {K : Type 0} → Carrying K → Type 0
TimedRunLaw carrying =
    (image : Contents) (cores limit : ℕ) (ms : List TimedMove) → cores ≤ CORES_MAX → limit < 2 ^ 32
    → IsTimely carrying (timed_run carrying (timed_start carrying image cores limit) ms)
