-- What a step of the machine promises, whatever its riders and carries are and whoever is told of it.
use Rattle.std.specs.Prelude.{◌≡◌, ◌<◌, ℕ, List, length}
use Rattle.access_times.specs.Riding.{Riding, Carrying}
use Rattle.machine_bound.specs.Bound.{Earns, left}
use Rattle.machine_data.specs.Coherent.{Coherent, Finds, memory_after}
use Rattle.machine_ports.specs.Steppings.{Takes}
use Rattle.msi_state.specs.Events.{Event}
use Rattle.machine_plain.specs.Plain.{plain}
use Rattle.msi_state.specs.Rests.{HasRoomFor, has_row_for}
use Rattle.msi_state.specs.Runs.{chosen, plain_event, plain_step}
use Rattle.msi_state.specs.States.{Machinery, State}
use Rattle.msi_state.specs.Steps.{StepsTo, event, moves}
use Rattle.msi_state.specs.declared.moves.Move.{Move}
use Rattle.msi_machine.specs.Writers.{OneWriterEach}

-- the move is the one that a step takes by this choice
abbrev pub IsTaken : {R K : Type 0} → Riding R → Carrying K → State R K → (choice : ℕ) → Move → Type 0
IsTaken riding carrying s choice m =
    Takes (moves riding carrying s) (chosen (plain s) choice) (has_row_for riding carrying s)
    (HasRoomFor riding carrying s) choice m

-- The machine after the move. What rides changes nothing: the plain part makes the plain machine's step, and
-- that tells of the same.
pub record HasMoved {R K : Type 0} (riding : Riding R) (carrying : Carrying K) (old new : Machinery R K)
    (m : Move) : Type 0 where
  pub state : StepsTo riding carrying old.state new.state m
  pub plainly : plain new.state ≡ plain_step (plain old.state) m
  pub tells : event riding carrying old.state m ≡ plain_event (plain old.state) m
  pub image : new.state.image ≡ old.state.image
  pub cores : length new.state.cores ≡ length old.state.cores
  pub rooms : new.rooms ≡ old.rooms

-- What a step that tells of this event keeps. It is paid for, and fewer are left. Whatever memory is coherent
-- with the state before: an access finds that memory's word, and the state after is coherent with the memory
-- after the access. At most one cache may write a block, and then no other may read it.
pub record KeepsPromises {R K : Type 0} (riding : Riding R) (carrying : Carrying K) (old new : State R K)
    (e : Event) : Type 0 where
  pub earns : Earns riding old new
  pub nearer : left riding new < left riding old
  pub coherent : (memory : ℕ → List ℕ) → Coherent riding carrying old memory
      → Coherent riding carrying new (memory_after e memory)
  pub finds : (memory : ℕ → List ℕ) → Coherent riding carrying old memory → Finds e memory
  pub one_writer : OneWriterEach riding carrying new
