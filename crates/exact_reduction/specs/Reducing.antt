-- What a reduction stands for, with the clocks that were noted of the instructions it was told of.
use Rattle.std.specs.Prelude.{◌≡◌, ◌∷◌, [], ◌++◌, List, Some}
use Rattle.access_times.specs.declared.times.Times.{Times}
use Rattle.rtr_types.specs.declared.access.Access.{Access}
use Rattle.rtr_types.specs.declared.instr.Edge.{Edge}
use Rattle.machine_times.specs.ExactTimes.{FindsExactTimes, HaveExactClocks, retired_accesses}
use Rattle.machine_times.specs.Retirements.{Retirement}
use Rattle.online_reduce.specs.Exact.{AreExactFor, IsReduction}
use Rattle.online_reduce.specs.Reduced.{IsNext, Reduced, clock_of, edges_of, retired}

-- the reduction stands for these retirements, whose accesses are these: the noted clocks are exact, and the edges are
-- the covering pairs
pub record ReducesExactly (list : List Retirement) (all : List Access) (r : Reduced) (edges : List Edge) : Type 0 where
  pub accesses_are : retired_accesses list ≡ all
  pub exact : HaveExactClocks all list
  pub reduction : IsReduction all r edges

-- The times that an access finds by exact clocks are those that the reduction needs.
abbrev pub FoundExactLaw : Type 0
FoundExactLaw = (list : List Access) (a : Access) (rider : Times) → FindsExactTimes list a rider → AreExactFor list a
    rider

-- The reduction still stands for the retirements once it was told of one more that made an access, by exact times.
abbrev pub AccessReducesLaw : Type 0
AccessReducesLaw =
    (list : List Retirement) (all : List Access) (r : Reduced) (edges : List Edge) (a : Access) (rider : Times)
    → IsNext r a.at → AreExactFor all a rider → ReducesExactly list all r edges
    → ReducesExactly
    (list ++ (record { at = a.at; access = Some a; clock = clock_of (retired r a rider) a.at.core }) ∷ [])
    (all ++ a ∷ [])
    (retired r a rider) (edges ++ edges_of r a rider)
