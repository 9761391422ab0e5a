-- Rule: enabled moves, and a step: moves, step, acts, event
-- The moves of the machine and what they do, for every type of riders and carries. A move is some acts of the memory
-- system, one after the other, and what its core becomes. The clerk may leave another rider on the copy that an access
-- touched: definitions take the rider that it left.
use Rattle.std.specs.Prelude.{◌≡◌, ℕ, ◌*◌, ◌/◌, ◌%◌, Bool, false, not, ◌&&◌, Option, Some, None, List, [], ◌∷◌, length}
use Rattle.std.specs.Prelude.{slice_set, nat_lt, All}
use Rattle.std.specs.List.{filter}
use Rattle.access_times.specs.Riding.{Riding, Carrying}
use Rattle.image_mem.specs.Contents.{Contents}
use Rattle.rtr_types.specs.declared.TheConstants.{BLOCK_WORDS}
use Rattle.rtr_types.specs.declared.access.Access.{Access}
use Rattle.rtr_types.specs.declared.access.Kind.{Kind}
use Rattle.rtr_types.specs.declared.instr.Instr.{Instr}
use Rattle.rv_core.specs.declared.core_state.Core.{Core}
use Rattle.rv_core.specs.Steps.{need, after, is_done, access_of as need_access}
use Rattle.msi_memory.specs.Acts.{waits}
use Rattle.msi_memory.specs.declared.port.Port.{Port}
use Rattle.msi_memory.specs.Acts.{Act, Want, Touch, Retire, TakeRequest, TakeResponse, TakeMessage, can, after_acts}
use Rattle.msi_memory.specs.Memories.{port_at}
use Rattle.msi_state.specs.declared.moves.Move.{Move}
use Rattle.msi_state.specs.declared.moves.Move.TheVariants.{Core as CoreMove, Request as RequestMove}
use Rattle.msi_state.specs.declared.moves.Move.TheVariants.{Response as ResponseMove, FromHome as MessageMove}
use Rattle.msi_state.specs.Moves.{candidates, core_of}
use Rattle.msi_state.specs.States.{State, core_at}
use Rattle.msi_state.specs.Events.{Event, Nothing, Retires, Accesses, event_working, event_receiving, port_taken}
use Rattle.msi_state.specs.Events.{rider_of_event, next_instr, Tells}

module _ {R : Type 0} where
  -- what an event of core c does at its port: the instruction retires, and its access is made, which leaves this
  -- rider
  abbrev pub acts_of : (c : ℕ) → R → Event → List (Act R)
  acts_of c rider Nothing = []
  acts_of c rider (Retires at) = Retire c at ∷ []
  acts_of c rider (Accesses a) =
      Retire c a.at ∷ Touch c (a.word / BLOCK_WORDS) (a.word % BLOCK_WORDS) a.kind a.after rider ∷ []

  -- core c asks for what this access needs
  abbrev pub asking : (c : ℕ) → Option (Kind × ℕ) → List (Act R)
  asking c None = []
  asking c (Some (kind, word)) = Want c (word / BLOCK_WORDS) kind ∷ []

  -- what core c's own move does at its port: it asks for the access that it needs where nothing retires
  abbrev pub acts_working : (c : ℕ) → R → Option (Kind × ℕ) → Event → List (Act R)
  acts_working c rider needed Nothing = asking c needed
  acts_working c rider needed e = acts_of c rider e

-- the cores after an event of core c
abbrev pub cores_after : Contents → (c : ℕ) → Event → List Core → List Core
cores_after image c Nothing cores = cores
cores_after image c (Retires at) cores = slice_set cores c (after image (core_at cores c) 0)
cores_after image c (Accesses a) cores = slice_set cores c (after image (core_at cores c) a.before)

module _ {R K : Type 0} where
  -- what a move tells the clerk
  abbrev pub event : Riding R → Carrying K → State R K → Move → Event
  event riding carrying s (CoreMove c) =
      event_working s.image riding (core_at s.cores c) (port_at carrying s.memory.ports c)
  event riding carrying s (RequestMove c) = Nothing
  event riding carrying s (ResponseMove c) = Nothing
  event riding carrying s (MessageMove c) =
      event_receiving s.image riding carrying (core_at s.cores c) (port_at carrying s.memory.ports c)

  -- what a move does to the memory system
  abbrev pub acts : Riding R → Carrying K → R → State R K → Move → List (Act R)
  acts riding carrying rider s (CoreMove c) =
      acts_working c rider (need_access (need s.image (core_at s.cores c))) (event riding carrying s (CoreMove c))
  acts riding carrying rider s (RequestMove c) = TakeRequest c ∷ []
  acts riding carrying rider s (ResponseMove c) = TakeResponse c ∷ []
  acts riding carrying rider s (MessageMove c) =
      TakeMessage c ∷ acts_of c rider (event riding carrying s (MessageMove c))

  -- the state after a move, in which the clerk left this rider on the copy that an access touched
  abbrev pub step : Riding R → Carrying K → R → State R K → Move → State R K
  step riding carrying rider s m =
      record s {
        cores = cores_after s.image (core_of m) (event riding carrying s m) s.cores;
        memory = after_acts riding carrying s.memory (acts riding carrying rider s m);
      }

  -- the move can be made: the core's own where its program isn't done and its cache doesn't wait, a request where the
  -- home can take it, a response and a message where there is one
  abbrev pub enabled : Riding R → Carrying K → State R K → Move → Bool
  enabled riding carrying s (CoreMove c) =
      nat_lt c (length s.cores)
      && (not (is_done (need s.image (core_at s.cores c))) && not (waits (port_at carrying s.memory.ports c).cache))
  enabled riding carrying s (RequestMove c) = can riding carrying s.memory (TakeRequest c)
  enabled riding carrying s (ResponseMove c) = can riding carrying s.memory (TakeResponse c)
  enabled riding carrying s (MessageMove c) = can riding carrying s.memory (TakeMessage c)

  -- the enabled moves, in order
  abbrev pub moves : Riding R → Carrying K → State R K → List Move
  moves riding carrying s = filter (enabled riding carrying s) (candidates (length s.cores) (4 * length s.cores))

  -- the port at which an instruction may retire in a move: once it took the message, if the move is a message's
  abbrev pub retiring : Riding R → Carrying K → State R K → Move → Port R K
  retiring riding carrying s (MessageMove c) = port_taken riding carrying (port_at carrying s.memory.ports c)
  retiring riding carrying s m = port_at carrying s.memory.ports (core_of m)

  -- the carry of a move's core once its next instruction has retired there
  abbrev pub carry_told : Riding R → Carrying K → State R K → Move → K
  carry_told riding carrying s m =
      carrying.retired (retiring riding carrying s m).carry (next_instr (core_at s.cores (core_of m)))

  -- the rider that a move's access finds on its copy
  abbrev pub rider_found : Riding R → Carrying K → State R K → Move → R
  rider_found riding carrying s m = rider_of_event riding (event riding carrying s m) (retiring riding carrying s m)

  -- the rider that a move left on the copy that its access touched, read in the state after it
  abbrev pub rider_left : Riding R → Carrying K → State R K → State R K → Move → R
  rider_left riding carrying old new m =
      rider_of_event riding (event riding carrying old m) (port_at carrying new.memory.ports (core_of m))

  -- the new state is the old one after the move, with the rider that was left on the copy that it touched
  abbrev pub StepsTo : Riding R → Carrying K → (old new : State R K) → Move → Type 0
  StepsTo riding carrying old new m = new ≡ step riding carrying (rider_left riding carrying old new m) old m

  -- what the clerk's calls do to it, once it was told of the move that made the new state of the old
  abbrev pub TellsOf : {C : Type 0} → (C → Instr → K → C → Type 0) → (C → R → Access → K → C → R → Type 0)
      → Riding R → Carrying K → (old new : State R K) → Move → (before after : C) → Type 0
  TellsOf told_local told_touch riding carrying old new m before after =
      Tells told_local told_touch (event riding carrying old m) (carry_told riding carrying old m)
      before (rider_found riding carrying old m) after (rider_left riding carrying old new m)

  -- the clerk accepts the next instruction of each core whose program isn't done
  abbrev pub AcceptsNext : {C : Type 0} → (C → Instr → Type 0) → C → State R K → Type 0
  AcceptsNext accepts clerk s =
      All (λ core. is_done (need s.image core) ≡ false → accepts clerk (next_instr core)) s.cores
