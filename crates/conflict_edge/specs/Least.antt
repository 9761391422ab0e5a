-- Rule: sufficient, least, covering: Suffices, IsLeast, Covering
-- The least set of conflict pairs that implies them all: Netzer's minimal trace, which is the transitive
-- reduction of Aho, Garey and Ullman but for program order, which needs no edge.
use Rattle.std.specs.Prelude.{◌≡◌, ℕ, ◌≤◌, ◌↔◌, List, Bool, nat_eq, ◌&&◌, count_by}
use Rattle.std.specs.Ordering.{nat_cmp, ordering_then}
use Rattle.std.specs.declared.cmp.Ordering.{Ordering}
use Rattle.std.specs.List.Sorted.{IsSortedByKey}
use Rattle.rtr_types.specs.declared.instr.Instr.{Instr}
use Rattle.rtr_types.specs.declared.instr.Edge.{Edge}
use Rattle.rtr_types.specs.declared.access.Access.{Access}
use Rattle.clock_core.specs.Order.{Relation, Within, Before, Among}
use Rattle.conflict_edge.specs.Conflicts.{ConflictPair, CountsRise}

-- each conflict pair is before by these pairs
abbrev pub Suffices : List Access → Relation → Type 0
Suffices list E = Within (ConflictPair list) (Before E)

-- the edges are conflict pairs, they suffice, and they are in each set of conflict pairs that suffices
pub record IsLeast (list : List Access) (edges : List Edge) : Type 0 where
  pub conflict : Within (Among edges) (ConflictPair list)
  pub suffices : Suffices list (Among edges)
  pub least : (others : List Edge) → Within (Among others) (ConflictPair list) → Suffices list (Among others) →
      Within (Among edges) (Among others)

-- a conflict pair with nothing strictly between in before(all conflict pairs)
abbrev pub Covering : List Access → Relation
Covering list x y =
    ConflictPair list x y × ((z : Instr) → Before (ConflictPair list) x z → Before (ConflictPair list) z y → ⊥)

-- the pairs of E but for (x, y)
abbrev pub Others : Relation → Instr → Instr → Relation
Others E x y u v = E u v × (u ≡ x → v ≡ y → ⊥)

-- A list of edges is least exactly where its edges are the covering pairs.
abbrev pub CoveringLaw : Type 0
CoveringLaw = (list : List Access) (edges : List Edge) → CountsRise list →
    IsLeast list edges ↔ ((x y : Instr) → Among edges x y ↔ Covering list x y)

-- Conflict pairs that suffice are least exactly where none of them is before by the others.
abbrev pub IndependentLaw : Type 0
IndependentLaw = (list : List Access) (edges : List Edge) → CountsRise list →
    Within (Among edges) (ConflictPair list) → Suffices list (Among edges) →
    IsLeast list edges ↔ ((x y : Instr) → Among edges x y → Before (Others (Among edges) x y) x y → ⊥)

-- A list of accesses has at most one least set.
abbrev pub OneLeastLaw : Type 0
OneLeastLaw = (list : List Access) (edges others : List Edge) → IsLeast list edges → IsLeast list others →
    (x y : Instr) → Among edges x y ↔ Among others x y

-- An access has at most one covering source on each core.
abbrev pub SourceLaw : Type 0
SourceLaw = (list : List Access) (x z y : Instr) → Covering list x y → Covering list z y → x.core ≡ z.core → x ≡ z

-- the edge leads from x to y
abbrev pub is_edge : Instr → Instr → Edge → Bool
is_edge x y e =
    (nat_eq e.from.core x.core && nat_eq e.from.count x.count) && (nat_eq e.to.core y.core && nat_eq e.to.count y.count)

-- no edge stands twice
abbrev pub AreOnce : List Edge → Type 0
AreOnce edges = (x y : Instr) → count_by (is_edge x y) edges ≤ 1

-- the source's core, the target's core, the target's count
abbrev pub pair_and_target : Edge → ℕ × ℕ × ℕ
pair_and_target e = (e.from.core, e.to.core, e.to.count)

abbrev pub in_turn : ℕ × ℕ × ℕ → ℕ × ℕ × ℕ → Ordering
in_turn x y = ordering_then (ordering_then (nat_cmp x.0 y.0) (nat_cmp x.1 y.1)) (nat_cmp x.2 y.2)

-- by the source's core, then the target's core, then the target's count
abbrev pub IsOrdered : List Edge → Type 0
IsOrdered edges = IsSortedByKey pair_and_target in_turn edges
