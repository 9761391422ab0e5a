-- A machine with store buffers whose riders record times: what they are after the accesses that were ordered so far.
use Rattle.std.specs.Prelude.{◌≡◌, ℕ, ◌≤◌, ◌<◌, List, length, IsTrue}
use Rattle.access_times.specs.Riding.{Riding, Carrying}
use Rattle.clock_core.specs.declared.clock.Clock.{Clock}
use Rattle.rtr_types.specs.declared.access.Access.{Access}
use Rattle.msi_memory.specs.declared.port.Port.{Port}
use Rattle.msi_memory.specs.Memories.{port_at, rider_at}
use Rattle.machine_times.specs.History.{NotedAccess, last_noted_read, rank}
use Rattle.machine_times.specs.Retirements.{IsExactRider, noted_after}
use Rattle.machine_times.specs.StandsFor.{HaveTimes, TimesParts}
pub use Rattle.machine_times.specs.Retirements.{RiderFits}
use Rattle.msi_state.specs.Events.{Accesses, port_taken}
use Rattle.tso_state.specs.declared.moves.Move.{Move}
use Rattle.tso_state.specs.declared.moves.Move.TheVariants.{FromHome as MessageMove}
use Rattle.tso_state.specs.Events.{count_before}
use Rattle.tso_state.specs.Moves.{core_of}
use Rattle.tso_state.specs.States.{BufferedCore, State, core_at}
use Rattle.tso_state.specs.Steps.{enabled, event, step}
pub use Rattle.tso_data.specs.Orders.{ordering_of}
use Rattle.tso_invariant.specs.Holds.{TsoHolds}

-- how many of a core's instructions were told
abbrev pub told_count : BufferedCore → ℕ
told_count t = count_before t.core t.queue

module _ {R K : Type 0} where
  -- the port at which an access is ordered in a move: once it took the message, if the move is a message's
  abbrev pub ordering_port : Riding R → Carrying K → State R K → Move → Port R K
  ordering_port riding carrying s (MessageMove c) = port_taken riding carrying (port_at carrying s.memory.ports c)
  ordering_port riding carrying s m = port_at carrying s.memory.ports (core_of m)

-- the riders have the times of these ordered accesses, newest first, and none of them was after what was told of its
-- core
pub record StandsAfter {R K : Type 0} (parts : TimesParts R) (carrying : Carrying K) (h : List NotedAccess)
    (s : State R K) : Type 0 where
  pub all : HaveTimes parts carrying h s.memory
  pub told : (c word : ℕ) → c < length s.cores → rank (last_noted_read h word c) ≤ told_count (core_at s.cores c)

module _ {R K : Type 0} where
  -- an ordered access finds exact times
  abbrev pub FindsTimes : TimesParts R → Carrying K → Type 0
  FindsTimes parts carrying =
      (h : List NotedAccess) (s : State R K) (m : Move) (a : Access)
      → TsoHolds parts.riding carrying s → IsTrue (enabled parts.riding carrying s m)
      → ordering_of (event parts.riding carrying s m) ≡ Accesses a → StandsAfter parts carrying h s
      → IsExactRider parts h a (rider_at parts.riding (ordering_port parts.riding carrying s m) a.word)

  -- after each step the riders have the times with the access that it ordered
  abbrev pub TimedStep : TimesParts R → Carrying K → Type 0
  TimedStep parts carrying =
      (h : List NotedAccess) (s : State R K) (m : Move) (rider : R) (clock : Clock)
      → TsoHolds parts.riding carrying s → IsTrue (enabled parts.riding carrying s m)
      → let e = ordering_of (event parts.riding carrying s m) in
      RiderFits parts clock rider e (ordering_port parts.riding carrying s m)
      → StandsAfter parts carrying h s
      → StandsAfter parts carrying (noted_after e clock h) (step parts.riding carrying rider s m)
