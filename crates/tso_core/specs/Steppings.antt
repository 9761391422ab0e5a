-- What a step of the machine promises, whatever its riders and carries are and whoever is told of it.
use Rattle.std.specs.Prelude.{◌≡◌, ◌<◌, ℕ, List, length}
use Rattle.access_times.specs.Riding.{Riding, Carrying}
use Rattle.machine_data.specs.Coherent.{Finds, memory_after}
use Rattle.tso_state.specs.declared.moves.Move.{Move}
use Rattle.tso_state.specs.Events.{Event}
use Rattle.tso_state.specs.Runs.{plain_event, plain_step, plain_told}
use Rattle.tso_state.specs.States.{State}
use Rattle.tso_state.specs.Steps.{event, told}
use Rattle.tso_bound.specs.Bound.{Earns}
pub use Rattle.tso_bound.specs.Bound.{left}
use Rattle.tso_data.specs.Orders.{Coherent, ordering_of}
use Rattle.tso_plain.specs.Plain.{plain}
use Rattle.tso_core.specs.Machineries.{Machinery}
use Rattle.tso_core.specs.Moving.{StepsTo}
use Rattle.machine_ports.specs.Writers.{OneWriterEach}

-- The machine after the move. What rides changes nothing: the plain part makes the plain machine's step, the same
-- happens in it, and the same is told of it.
pub record HasMoved {R K : Type 0} (riding : Riding R) (carrying : Carrying K) (old new : Machinery R K)
    (m : Move) : Type 0 where
  pub state : StepsTo riding carrying old.state new.state m
  pub rooms : new.rooms ≡ old.rooms
  pub plainly : plain new.state ≡ plain_step (plain old.state) m
  pub does : event riding carrying old.state m ≡ plain_event (plain old.state) m
  pub tells : told riding carrying old.state m ≡ plain_told (plain old.state) m
  pub image : new.state.image ≡ old.state.image
  pub cores : length new.state.cores ≡ length old.state.cores

-- What a step in which this happens keeps. It is paid for, and fewer are left. Whatever memory is coherent with the
-- state before: an ordered access finds that memory's word, and the state after is coherent with the memory after the
-- access. At most one cache may write a block, and then no other may read it.
pub record KeepsPromises {R K : Type 0} (riding : Riding R) (carrying : Carrying K) (old new : State R K)
    (e : Event) : Type 0 where
  pub earns : Earns old new
  pub nearer : left new < left old
  pub coherent : (memory : ℕ → List ℕ) → Coherent riding carrying old memory
      → Coherent riding carrying new (memory_after (ordering_of e) memory)
  pub finds : (memory : ℕ → List ℕ) → Coherent riding carrying old memory → Finds (ordering_of e) memory
  pub one_writer : OneWriterEach riding carrying new.memory
