-- The reduction is told of one instruction more.
use Rattle.std.proofs.Common.{List}
use Rattle.exact_reduction.specs.Reducing.{ReducesExactly}
use Rattle.machine_times.specs.Retirements.{Retirement}
use Rattle.online_reduce.proofs.Reductions.{count_law}
use Rattle.online_reduce.specs.Reduced.{IsNext, Reduced, counted}
use Rattle.rtr_types.specs.declared.access.Access.{Access}
use Rattle.rtr_types.specs.declared.instr.Edge.{Edge}
use Rattle.rtr_types.specs.declared.instr.Instr.{Instr}

-- an instruction that orders no access
pub local_reduces : (list : List Retirement) (all : List Access) (r : Reduced) (edges : List Edge) (at : Instr) →
    IsNext r at → ReducesExactly list all r edges → ReducesExactly list all (counted r at) edges
local_reduces list all r edges at next h =
    record { accesses_are = h.accesses_are; exact = h.exact; reduction = count_law all r edges at next h.reduction }
