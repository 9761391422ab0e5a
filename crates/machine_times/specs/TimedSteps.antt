-- What a step of a machine with times keeps, and what an access finds.
use Rattle.std.specs.Prelude.{◌≡◌, ℕ, ◌==◌, List, [], ◌∷◌, reverse, IsTrue, if◌then◌else◌}
use Rattle.access_times.specs.Riding.{Carrying}
use Rattle.access_times.specs.Times.{times_riding, write_at, read_at}
use Rattle.access_times.specs.declared.times.Times.{Times}
use Rattle.clock_core.specs.Counts.{no_counts}
use Rattle.clock_core.specs.declared.clock.Clock.{Clock}
use Rattle.rtr_types.specs.declared.access.Access.{Access}
use Rattle.rtr_types.specs.declared.instr.Instr.{Instr}
use Rattle.machine_invariant.specs.Holds.{MachineHolds}
use Rattle.msi_state.specs.Events.{Event, Nothing, Retires, Accesses, Tells}
use Rattle.msi_state.specs.States.{State}
use Rattle.msi_state.specs.Steps.{step, event, retiring, rider_found, enabled}
use Rattle.msi_memory.specs.Memories.{rider_at}
use Rattle.msi_state.specs.declared.moves.Move.{Move}
use Rattle.machine_times.specs.Retirements.{Retirement, noted_accesses, MachineStandsFor, StandsAfter, after_event}
use Rattle.machine_times.specs.Retirements.{with_event}
use Rattle.machine_times.specs.Retirements.{RiderFits, IsExactRider}
use Rattle.machine_times.specs.StandsFor.{TimesParts}

module _ {R K : Type 0} where
  -- after each step the machine stands for the retirements with the new one
  abbrev pub TimedStep : TimesParts R → Carrying K → Type 0
  TimedStep parts carrying =
      (h : List Retirement) (s : State R K) (m : Move) (rider : R) (clock : Clock)
      → MachineHolds parts.riding carrying s → IsTrue (enabled parts.riding carrying s m)
      → let e = event parts.riding carrying s m in
      RiderFits parts clock rider e (retiring parts.riding carrying s m)
      → StandsAfter parts carrying h s
      → StandsAfter parts carrying (after_event e clock h) (step parts.riding carrying rider s m)

  -- an access finds exact times
  abbrev pub FindsTimes : TimesParts R → Carrying K → Type 0
  FindsTimes parts carrying =
      (h : List Retirement) (s : State R K) (m : Move) (a : Access)
      → MachineHolds parts.riding carrying s → IsTrue (enabled parts.riding carrying s m)
      → event parts.riding carrying s m ≡ Accesses a → StandsAfter parts carrying h s
      → IsExactRider parts (noted_accesses h) a (rider_at parts.riding (retiring parts.riding carrying s m) a.word)

-- the rider that records times, by its parts
abbrev pub times_parts : TimesParts Times
times_parts = record { riding = times_riding; write = write_at; read = read_at }

-- the core whose event it is
abbrev pub core_of_event : Event → ℕ
core_of_event Nothing = 0
core_of_event (Retires at) = at.core
core_of_event (Accesses a) = a.at.core

-- the list with what a move of the state retires, by the clocks that a clerk has after it
abbrev pub with_step : {K : Type 0} → Carrying K → State Times K → Move → (ℕ → Clock) → List Retirement
    → List Retirement
with_step carrying s m clock list =
    with_event (event times_riding carrying s m) (clock (core_of_event (event times_riding carrying s m))) list

-- the rider that a move's access finds is exact for it after the list
abbrev pub StepFinds : {K : Type 0} → Carrying K → State Times K → Move → List Retirement → Type 0
StepFinds carrying s m list =
    (a : Access) → event times_riding carrying s m ≡ Accesses a
    → let rider = rider_at times_riding (retiring times_riding carrying s m) a.word in
    IsExactRider times_parts (noted_accesses (reverse list)) a rider

-- after a step that the clerk was told of, the machine stands for the list with what retired appended, with the clock
-- that the clerk then has for its core
abbrev pub TimedTold : {C K : Type 0} → (C → Instr → K → C → Type 0) → (C → Times → Access → K → C → Times → Type 0)
    → (C → ℕ → Clock) → Carrying K → Type 0
TimedTold {C} {K} told_local told_touch clock carrying =
    (list : List Retirement) (s : State Times K) (m : Move) (old new : C) (rider : Times) (k : K)
    → MachineHolds times_riding carrying s → IsTrue (enabled times_riding carrying s m)
    → let e = event times_riding carrying s m in
    Tells told_local told_touch e k old (rider_found times_riding carrying s m) new rider
    → MachineStandsFor times_parts carrying list s
    → let later = with_step carrying s m (clock new) list in
    MachineStandsFor times_parts carrying later (step times_riding carrying rider s m)

-- the clock noted at the core's last one of the retirements, newest first, and zero before the first
abbrev pub last_clock : List Retirement → ℕ → Clock
last_clock [] core = no_counts
last_clock (r ∷ h) core = if r.at.core == core then r.clock else last_clock h core

-- these clocks are the ones last noted for each core
abbrev pub AreLastClocks : (ℕ → Clock) → List Retirement → Type 0
AreLastClocks clock list = (core : ℕ) → clock core ≡ last_clock (reverse list) core

-- a clerk that has the clocks last noted has them after it was told of an event
abbrev pub ClocksTold : {C K : Type 0} → (C → Instr → K → C → Type 0) → (C → Times → Access → K → C → Times → Type 0)
    → (C → ℕ → Clock) → Type 0
ClocksTold {C} {K} told_local told_touch clock =
    (list : List Retirement) (e : Event) (k : K) (old new : C) (before after : Times)
    → Tells told_local told_touch e k old before new after
    → AreLastClocks (clock old) list → AreLastClocks (clock new) (with_event e (clock new (core_of_event e)) list)
