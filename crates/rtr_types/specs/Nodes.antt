-- Rule: a node, an instruction that totals have: IsNode
-- The nodes of the order graph: the instructions that cores retire which have these totals.
use Rattle.std.specs.Prelude.{ℕ, ◌<◌, ◌≤◌, List, length, slice_index}
use Rattle.rtr_types.specs.declared.instr.Instr.{Instr}

-- an instruction that the totals have: its core has a total, and its count goes from 1 to that
pub record IsNode (totals : List ℕ) (x : Instr) : Type 0 where
  pub core : x.core < length totals
  pub some : 1 ≤ x.count
  pub most : x.count ≤ slice_index totals x.core
