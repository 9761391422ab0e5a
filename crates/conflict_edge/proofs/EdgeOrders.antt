-- The same edges in another order.
use Rattle.std.proofs.Common.{List}
use Rattle.std.specs.List.Sorted.{IsPermutation}
use Rattle.std.proofs.lemmas.List.Sorted.{Contains-permutation}
use Rattle.clock_core.proofs.EdgeLists.{contains_among, among_contains}
use Rattle.clock_core.specs.Order.{Among}
use Rattle.conflict_edge.proofs.TwoForms.{covering_law}
use Rattle.conflict_edge.specs.Conflicts.{CountsRise}
use Rattle.conflict_edge.specs.Least.{IsLeast}
use Rattle.conflict_edge.specs.Scan.{AreCovering}
use Rattle.rtr_types.specs.declared.access.Access.{Access}
use Rattle.rtr_types.specs.declared.instr.Edge.{Edge}
use Rattle.rtr_types.specs.declared.instr.Instr.{Instr}

shuffled : (es fs : List Edge) → IsPermutation es fs → (x y : Instr) → Among es x y → Among fs x y
shuffled es fs p x y s = contains_among fs x y (Contains-permutation es fs (record { from = x; to = y }) p
    (among_contains es x y s))

pub least_shuffled : (list : List Access) (es fs : List Edge) → CountsRise list → AreCovering list es →
    IsPermutation es fs → IsPermutation fs es →
    IsLeast list fs
least_shuffled list es fs rise covers p q =
    (covering_law list fs rise).1 (λ x y. (
      λ s. (covers x y).0 (shuffled fs es q x y s),
      λ c. shuffled es fs p x y
          ((covers x y).1 c),
    ))
