-- Rule: the invariant of the machine: CoresHold, MachineHolds
-- The invariant of the machine: what each state of a run keeps. That of other cores over the memory system is alike.
use Rattle.std.specs.Prelude.{◌≡◌, ℕ, ◌<◌, ◌≤◌, ◌^◌, length, slice_index_or}
use Rattle.access_times.specs.Riding.{Riding, Carrying}
use Rattle.image_mem.specs.Contents.{Contents}
use Rattle.rv_core.specs.declared.core_state.Core.{Core}
use Rattle.rv_core.specs.States.{starting}
use Rattle.rv_core.specs.Steps.{need, access_of as need_access}
use Rattle.msi_directory.specs.Blocks.{block_count}
use Rattle.msi_memory.specs.declared.port.Port.{Port}
use Rattle.msi_memory.specs.Memories.{port_at}
use Rattle.msi_laws.specs.Holds.{MemoryHolds}
use Rattle.msi_laws.specs.Waits.{Awaited}
use Rattle.msi_state.specs.CoreStates.{CoresState}
use Rattle.msi_state.specs.States.{State}

-- core c is well at its port
pub record CoreHolds {R K : Type 0} (image : Contents) (riding : Riding R) (c : ℕ) (core : Core)
    (p : Port R K) : Type 0 where
  -- its number is its place
  pub number : core.id ≡ c
  pub count_fits : core.count ≤ core.limit
  pub limit_fits : core.limit < 2 ^ 32
  pub awaited : Awaited (need_access (need image core)) riding p

-- what each state of cores over a memory system keeps, by what is well of core c at its port
pub record CoresHold {C R K : Type 0} (riding : Riding R) (carrying : Carrying K) (no_core : C)
    (IsWell : Contents → (c : ℕ) → C → Port R K → Type 0) (s : CoresState C R K) : Type 0 where
  pub memory : MemoryHolds riding carrying s.memory
  -- each core has a port
  pub ports_there : length s.memory.ports ≡ length s.cores
  -- the home has the blocks of the image's memory
  pub blocks_there : length s.memory.home ≡ block_count s.image.words
  pub cores : (c : ℕ) → c < length s.cores
      → IsWell s.image c (slice_index_or s.cores c no_core) (port_at carrying s.memory.ports c)

module _ {R K : Type 0} where
  abbrev pub MachineHolds : Riding R → Carrying K → State R K → Type 0
  MachineHolds riding carrying s =
      CoresHold riding carrying (starting 0 0) (λ image c core p. CoreHolds image riding c core p) s
