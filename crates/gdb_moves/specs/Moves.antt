-- Rule: what a debugger's move comes to: Obeys, Steps, Goes, GoesWith, HaltsIn, StepsIn
-- Moves of a place, and the stops that end them. Each comes to a closed cut: a place is at none other.
use Rattle.std.specs.Prelude.{◌≡◌, ℕ, ◌<◌, zero, suc, true, false, List, Option, Some, None, MatchOption, unwrap_or}
use Rattle.std.specs.Prelude.{if◌then◌else◌}
use Rattle.rtr_types.specs.CoreSets.{has}
use Rattle.rtr_types.specs.declared.core_set.CoreSet.{CoreSet}
use Rattle.rtr_types.specs.declared.cut.Cut.{Cut}
use Rattle.gdb_packets.specs.declared.replies.Signal.TheVariants.{Interrupt, Trap}
use Rattle.gdb_packets.specs.declared.replies.Stop as stops
use Rattle.gdb_packets.specs.declared.replies.Why.{Why}
use Rattle.gdb_packets.specs.declared.replies.Why.TheVariants.{Nothing, Breakpoint}
use Rattle.replay_audit.specs.Audits.{IsInstrOf}
use Rattle.cut_replay.specs.ClosedCuts.{IsClosed, count_in}
use Rattle.cut_moves.specs.Steps.{IsStep, next_in}
use Rattle.debug_place.specs.Places.{IsKept, Placed, cut_at, plan_at}
use Rattle.gdb_moves.specs.declared.direction.Direction.{Direction}
use Rattle.gdb_moves.specs.declared.direction.Direction.TheVariants.{Forward, Back}
use Rattle.gdb_moves.specs.declared.order.Order.{Order}
use Rattle.gdb_moves.specs.declared.order.Order.TheVariants.{Rest, Step, StepIn, Go, GoWith}
use Rattle.gdb_moves.specs.declared.points.Point.{Point}
use Rattle.gdb_moves.specs.declared.ranges.Range.{Range}
use Rattle.gdb_moves.specs.Directions.{GoesTo, IsLimit, IsStepIn, ahead_in, faulting, limit_why, pausing}
use Rattle.gdb_moves.specs.Ends.{end_of, signal_of}
use Rattle.gdb_moves.specs.Points.{why_of}
use Rattle.gdb_moves.specs.Ranges.{goes_on}
use Rattle.gdb_moves.specs.Stopping.{Stopping, breaks, stopping_by, stops_at, watched}
use Rattle.gdb_moves.specs.Turns.{IsTurnIn, NoTurnIn, timeline_at}

-- ---- stops

-- by a trap
abbrev pub plain_stop : (core : ℕ) → Why → stops.Stop
plain_stop core why = record { signal = Trap; core = core; why = why }

abbrev pub interrupt_stop : (core : ℕ) → stops.Stop
interrupt_stop core = record { signal = Interrupt; core = core; why = Nothing }

-- behind the last instruction of a core
abbrev pub fault_stop : Stopping → (core : ℕ) → stops.Stop
fault_stop stopping core =
    record { signal = unwrap_or (signal_of (stopping.ends core)) Trap; core = core; why = Nothing }

-- who is told of a core's access: the core, or the one that leads where the core isn't heard
abbrev pub teller : CoreSet → (lead core : ℕ) → ℕ
teller heard lead core = if has heard core then core else lead

-- ---- what is left as it was

-- nothing moves, and this is told
pub record Stays (old new : Placed) (stop told : stops.Stop) : Type 0 where
  pub place : new ≡ old
  pub stop_is : stop ≡ told

-- a core takes its next instruction, and this is told
pub record Takes (old new : Placed) (core : ℕ) (stop told : stops.Stop) : Type 0 where
  pub step : IsStep old.which old.recording (cut_at old) (next_in (cut_at old) core) (cut_at new)
  pub stop_is : stop ≡ told

-- ---- what stopped it

-- stopped before a core's next instruction: by a breakpoint, or else by a watched range that its access touches; or
-- else the core takes it, and its program ends by a fault
pub record Halts (stopping : Stopping) (lead core : ℕ) (old new : Placed) (stop : stops.Stop) : Type 0 where
  pub on_break : breaks stopping old.state core ≡ true → Stays old new stop (plain_stop core Breakpoint)
  pub on_watch : breaks stopping old.state core ≡ false → (point : Point) →
      watched stopping (plan_at old) old.state core ≡ Some point →
      Stays old new stop (plain_stop (teller stopping.heard lead core) (why_of point))
  pub on_fault : breaks stopping old.state core ≡ false → watched stopping (plan_at old) old.state core ≡ None →
      Takes old new core stop (fault_stop stopping core)

-- stopped at a core's instruction: behind it, where its access touches a watched range, or else before it
pub record HaltsBack (stopping : Stopping) (lead core : ℕ) (old new : Placed) (stop : stops.Stop) : Type 0 where
  pub on_watch : (point : Point) → watched stopping (plan_at old) old.state core ≡ Some point →
      Takes old new core stop (plain_stop (teller stopping.paused lead core) (why_of point))
  pub on_break : watched stopping (plan_at old) old.state core ≡ None →
      Stays old new stop (plain_stop core Breakpoint)

-- in either direction
abbrev pub HaltsIn : Direction → Stopping → (lead core : ℕ) → (old new : Placed) → stops.Stop → Type 0
HaltsIn Forward stopping lead core old new stop = Halts stopping lead core old new stop
HaltsIn Back stopping lead core old new stop = HaltsBack stopping lead core old new stop

-- ---- moves in a direction

-- the way to a cut is gone until something stops it, or to the cut, where this is told
pub record Walks (direction : Direction) (stopping : Stopping) (lead : ℕ) (old : Placed) (to : Cut) (new : Placed)
    (stop told : stops.Stop) : Type 0 where
  pub mid : Placed
  pub kept : IsKept old mid
  pub before : Option ℕ
  pub goes : GoesTo direction (stops_at stopping) old to mid before
  pub ends : MatchOption before (Stays mid new stop told) (λ core. HaltsIn direction stopping lead core mid new stop)

-- a core steps: the way is gone to the cut of its step
pub record StepsOn (direction : Direction) (stopping : Stopping) (core : ℕ) (old new : Placed) (stop : stops.Stop)
    : Type 0 where
  pub to : Cut
  pub step : IsStepIn direction old.which old.recording (cut_at old) core to
  pub walks : Walks direction stopping core old to new stop (plain_stop core Nothing)

-- unless nothing of it lies ahead: then the end is told, or back the beginning
pub record Steps (direction : Direction) (stopping : Stopping) (core : ℕ) (old new : Placed) (stop : stops.Stop)
    : Type 0 where
  pub goes : IsInstrOf old.recording (ahead_in direction (cut_at old) core) →
      StepsOn direction stopping core old new stop
  pub ends : (IsInstrOf old.recording (ahead_in direction (cut_at old) core) → ⊥) →
      Stays old new stop (plain_stop core (limit_why direction))

-- all cores go on: the way is gone to the cut with all instructions, where the end is told, or back to the one with
-- none, where the beginning is
pub record Goes (direction : Direction) (stopping : Stopping) (lead : ℕ) (old new : Placed) (stop : stops.Stop)
    : Type 0 where
  pub to : Cut
  pub closed : IsClosed old.which old.recording to
  pub limit : IsLimit direction old.recording to
  pub walks : Walks direction stopping lead old to new stop (plain_stop lead (limit_why direction))

-- ---- only some cores in a direction

-- so many moves of a kind, one after the other
abbrev pub Follow : (move : Placed → Placed → Type 0) → (count : ℕ) → (old new : Placed) → Type 0
Follow move zero old new = new ≡ old
Follow move (suc count) old new = (mid : Placed) × Follow move count old mid × move mid new

-- a core steps, and nothing stops it on its way
pub record StepsFree (direction : Direction) (stopping : Stopping) (core : ℕ) (old new : Placed) : Type 0 where
  pub kept : IsKept old new
  pub step : IsStepIn direction old.which old.recording (cut_at old) core (cut_at new)
  pub free : GoesTo direction (stops_at stopping) old (cut_at new) new None

-- a core steps, and something stops it on its way
pub record StepsInto (direction : Direction) (stopping : Stopping) (core : ℕ) (old new : Placed) (stop : stops.Stop)
    : Type 0 where
  pub to : Cut
  pub step : IsStepIn direction old.which old.recording (cut_at old) core to
  pub mid : Placed
  pub kept : IsKept old mid
  pub before : ℕ
  pub first : GoesTo direction (stops_at stopping) old to mid (Some before)
  pub halts : HaltsIn direction stopping core before mid new stop

-- the one of these cores whose turn it is steps, and nothing stops it
pub record TakesTurn (direction : Direction) (stopping : Stopping) (cores : CoreSet) (old new : Placed) : Type 0 where
  pub core : ℕ
  pub turn : IsTurnIn direction cores (cut_at old) (timeline_at old) core
  pub steps : StepsFree direction stopping core old new

-- the one whose turn it is steps, and is stopped
pub record StopsTurn (direction : Direction) (stopping : Stopping) (cores : CoreSet) (core : ℕ) (old new : Placed)
    (stop : stops.Stop) : Type 0 where
  pub turn : IsTurnIn direction cores (cut_at old) (timeline_at old) core
  pub steps : StepsInto direction stopping core old new stop

-- only these cores go on, turn by turn, and others as the log demands, until something stops the one whose turn it is,
-- or nothing of them lies ahead, where the end is told, or back the beginning
pub record GoesWith (direction : Direction) (stopping : Stopping) (cores : CoreSet) (lead : ℕ) (old new : Placed)
    (stop : stops.Stop) : Type 0 where
  pub turns : ℕ
  pub mid : Placed
  pub free : Follow (TakesTurn direction stopping cores) turns old mid
  pub next : Option ℕ
  pub ends : MatchOption next
      (NoTurnIn direction cores (cut_at mid) (timeline_at mid)
      × Stays mid new stop (plain_stop lead (limit_why direction)))
      (λ core. StopsTurn direction stopping cores core mid new stop)

-- ---- steps in a range

-- a core steps, and goes on behind it
pub record StepsInside (range : Range) (stopping : Stopping) (core : ℕ) (old new : Placed) : Type 0 where
  pub kept : IsKept old new
  pub stop : stops.Stop
  pub steps : Steps Forward stopping core old new stop
  pub on : goes_on range stopping.points core (count_in (cut_at old) core) new stop ≡ true

-- so many steps of the core, each behind the other, up to the first behind which it doesn't go on
pub record StepsIn (range : Range) (stopping : Stopping) (core : ℕ) (old new : Placed) (stop : stops.Stop)
    : Type 0 where
  pub count : ℕ
  pub mid : Placed
  pub inside : Follow (StepsInside range stopping core) count old mid
  pub last : Steps Forward stopping core mid new stop
  pub ends : goes_on range stopping.points core (count_in (cut_at mid) core) new stop ≡ false

-- ---- orders

-- a core that steps forwards isn't stopped by a breakpoint at its own instruction
abbrev pub stepping : Direction → Placed → List Point → (core : ℕ) → CoreSet → Stopping
stepping direction place points core heard =
    stopping_by points (pausing direction core heard) (faulting direction heard) (end_of place)

abbrev pub going : Direction → Placed → List Point → CoreSet → Stopping
going direction place points heard = stopping_by points heard (faulting direction heard) (end_of place)

-- what an order comes to
abbrev pub Obeys : List Point → Order → (old new : Placed) → stops.Stop → Type 0
Obeys points (Rest core) old new stop = Stays old new stop (interrupt_stop core)
Obeys points (Step direction core heard) old new stop =
    Steps direction (stepping direction old points core heard) core old new stop
Obeys points (StepIn core heard range) old new stop =
    StepsIn range (stepping Forward old points core heard) core old new stop
Obeys points (Go direction lead heard) old new stop =
    Goes direction (going direction old points heard) lead old new stop
Obeys points (GoWith direction lead cores heard) old new stop =
    GoesWith direction (going direction old points heard) cores lead old new stop

-- the core that an order names is there
abbrev pub IsWithin : Order → (cores : ℕ) → Type 0
IsWithin (Rest core) cores = core < cores
IsWithin (Step direction core heard) cores = core < cores
IsWithin (StepIn core heard range) cores = core < cores
IsWithin (Go direction core heard) cores = core < cores
IsWithin (GoWith direction core movers heard) cores = core < cores
