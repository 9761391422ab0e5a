-- Rule: states of the machine: State, state_start
-- The states of a machine: cores over a memory system.
use Rattle.std.specs.Prelude.{ℕ, List, slice_index_or, Bool}
use Rattle.access_times.specs.Riding.{Riding, Carrying}
use Rattle.image_mem.specs.Contents.{Contents}
use Rattle.rv_core.specs.declared.core_state.Core.{Core}
use Rattle.rv_core.specs.States.{starting}
use Rattle.rv_core.specs.Steps.{need, is_done}
use Rattle.msi_state.specs.CoreStates.{CoresState, cores_start, all_ended}

-- the image, the cores and the memory system
abbrev pub State : (R K : Type 0) → Type 0
State R K = CoresState Core R K

-- the state of a machine on which nothing rides: cores, caches, home and messages alone
abbrev pub PlainState : Type 0
PlainState = State (Unit {0}) (Unit {0})

-- what a machine is to contracts: its state, beside which of the home's blocks have room for a request
pub record Machinery (R K : Type 0) : Type 0 where
  pub state : State R K
  pub rooms : List Bool

-- a core, by its number
abbrev pub core_at : List Core → ℕ → Core
core_at cores c = slice_index_or cores c (starting 0 0)

module _ {R K : Type 0} where
  -- the state at the start: no instruction has retired
  abbrev pub state_start : Riding R → Carrying K → Contents → (cores limit : ℕ) → State R K
  state_start riding carrying image cores limit = cores_start (λ id. starting id limit) riding carrying image cores

  -- each core's program is done
  abbrev pub all_done : State R K → Bool
  all_done s = all_ended (λ image core. is_done (need image core)) s
