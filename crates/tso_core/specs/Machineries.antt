-- What a machine is to contracts.
use Rattle.std.specs.Prelude.{◌<◌, ℕ, Bool, List, length}
use Rattle.msi_memory.specs.Rests.{are_heads_roomy}
use Rattle.tso_state.specs.States.{State}

-- its state, beside which of the home's blocks have room for a request
pub record Machinery (R K : Type 0) : Type 0 where
  pub state : State R K
  pub rooms : List Bool

-- no move of the state takes memory: the home has room for the block of each port's oldest request
abbrev pub heads_roomy : {R K : Type 0} → Machinery R K → Bool
heads_roomy m = are_heads_roomy m.state.memory.ports m.rooms

-- core c is there, and so is its port
pub record IsThere {R K : Type 0} (s : State R K) (c : ℕ) : Type 0 where
  pub core : c < length s.cores
  pub port : c < length s.memory.ports
