-- Rule: by which edges an instruction waited: chain_of
-- The last wait up to an instruction, and the chain of waits back from it.
use Rattle.std.specs.Prelude.{ℕ, zero, suc, ◌&&◌, nat_eq, nat_le, nat_lt, Bool, List, [], ◌∷◌, Option, Some, None}
use Rattle.std.specs.Prelude.{if◌then◌else◌}
use Rattle.rtr_types.specs.declared.instr.Instr.{Instr}
use Rattle.race_queries.specs.declared.ends.Ends.{Ends}

-- an edge leads to the instruction, or to one before it on its core
abbrev pub leads_up_to : Instr → Ends → Bool
leads_up_to at e = nat_eq e.edge.to.core at.core && nat_le e.edge.to.count at.count

-- of two edges into one core the one that leads to the later instruction, or the first, if it is one instruction
abbrev pub later : Ends → Option Ends → Ends
later e None = e
later e (Some other) = if nat_lt e.edge.to.count other.edge.to.count then other else e

-- of the edges that lead to the instruction, or to one before it on its core, the last
unfoldable pub last_wait : Instr → List Ends → Option Ends
last_wait at [] = None
last_wait at (e ∷ rest) = if leads_up_to at e then Some (later e (last_wait at rest)) else last_wait at rest

-- an edge, and then those behind it
abbrev pub onward : Option Ends → (Ends → List Ends) → List Ends
onward None rest = []
onward (Some e) rest = e ∷ rest e

-- the last wait up to the instruction, then the last wait up to that edge's source, and so on, at most so many
unfoldable pub chain_of : List Ends → Instr → (most : ℕ) → List Ends
chain_of all at zero = []
chain_of all at (suc most) = onward (last_wait at all) (λ e. chain_of all e.edge.from most)
