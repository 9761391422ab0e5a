-- The two forms of the least set.
use Rattle.std.proofs.Common.{◌≢◌, ◌↔◌, List, reverse, refl, inr, ◌<◌, ◌⊎◌, inl, sym, ◌≡◌}
use Rattle.std.proofs.lemmas.Bool.{cases_order}
use Rattle.clock_core.proofs.Paths.{one, more}
use Rattle.clock_core.specs.Order.{Within, Before, Among}
use Rattle.conflict_edge.proofs.History.{Pair, pair_cores}
use Rattle.conflict_edge.proofs.Independent.{implied, in_each, others_suffice, without}
use Rattle.conflict_edge.proofs.CoveringPairs.{Cover, covering_suffices}
use Rattle.conflict_edge.proofs.Ranks.{no_cycle}
use Rattle.conflict_edge.proofs.NewestFirst.{pair_back, pair_forth, rising_back}
use Rattle.conflict_edge.specs.Conflicts.{ConflictPair, CountsRise}
use Rattle.conflict_edge.specs.Least.{Suffices, IsLeast, Covering, Others, CoveringLaw, IndependentLaw, OneLeastLaw}
use Rattle.conflict_edge.specs.Least.{SourceLaw}
use Rattle.rtr_types.specs.declared.access.Access.{Access}
use Rattle.rtr_types.specs.declared.instr.Edge.{Edge}
use Rattle.rtr_types.specs.declared.instr.Instr.{Instr}
use Rattle.rtr_types.proofs.Instrs.{instr_eq}

pub acyclic : (list : List Access) → CountsRise list → (x : Instr) → Before (ConflictPair list) x x → ⊥
acyclic list rise x p = no_cycle (reverse list) (rising_back list rise) x (more (ConflictPair list)
    (Pair (reverse list)) (pair_forth list) x x p)

pub cores_differ : (list : List Access) (x y : Instr) → ConflictPair list x y → x.core ≢ y.core
cores_differ list x y p = pair_cores (reverse list) x y (pair_forth list x y p)

pub covering_suffice : (list : List Access) → CountsRise list → Suffices list (Covering list)
covering_suffice list rise x y p =
    more (Cover (reverse list)) (Covering list) over x y (covering_suffices (reverse list) (rising_back list rise) x y
    (pair_forth list x y p))
  where
    over : Within (Cover (reverse list)) (Covering list)
    over a b c = (
      pair_back list a b c.0,
      λ z p q. c.1 z (more (ConflictPair list) (Pair (reverse list)) (pair_forth list) a z p)
          (more (ConflictPair list) (Pair (reverse list)) (pair_forth list) z b q),
    )

-- no pair of a least set is implied by the others
pub least_independent : (list : List Access) (edges : List Edge) → IsLeast list edges → (x y : Instr) →
    Among edges x y →
    Before (Others (Among edges) x y) x y → ⊥
least_independent list edges least x y s p = (w.1 x y (least.least w.0 within enough x y s)).1 refl refl
  where
    w : (fs : List Edge) × Within (Among fs) (Others (Among edges) x y) × Within (Others (Among edges) x y) (Among fs)
    w = without edges x y

    within : Within (Among w.0) (ConflictPair list)
    within a b t = least.conflict a b (w.1 a b t).0

    enough : Suffices list (Among w.0)
    enough a b c = more (Others (Among edges) x y) (Among w.0) w.2 a b (others_suffice (ConflictPair list) (Among edges)
        least.suffices x y p a b c)

-- a pair that the others don't imply covers
pub independent_covers : (list : List Access) (edges : List Edge) → CountsRise list →
    Within (Among edges) (ConflictPair list) → Suffices list (Among edges) →
    (x y : Instr) → Among edges x y → (Before (Others (Among edges) x y) x y → ⊥) → Covering list x y
independent_covers list edges rise within suffices x y s free = (
  within x y s,
  λ z p q. free (implied (ConflictPair list) (Among edges) within suffices (acyclic list rise) x y z p
      q),
)

pub covering_in : (list : List Access) (edges : List Edge) → Within (Among edges) (ConflictPair list) →
    Suffices list (Among edges) →
    Within (Covering list) (Among edges)
covering_in list edges within suffices x y c = in_each (ConflictPair list) (Among edges) within suffices
    (cores_differ list) x y c.0 c.1

pub independent_law : IndependentLaw
independent_law list edges rise within suffices = (least_independent list edges, back)
  where
    back : ((x y : Instr) → Among edges x y → Before (Others (Among edges) x y) x y → ⊥) → IsLeast list edges
    back free = record {
      conflict = within;
      suffices = suffices;
      least = λ others inside enough x y s. covering_in list others inside enough x y
          (independent_covers list edges rise within suffices x y s (free x y s));
    }

pub covering_law : CoveringLaw
covering_law list edges rise = (forth, back)
  where
    forth : IsLeast list edges → (x y : Instr) → Among edges x y ↔ Covering list x y
    forth least x y = (
      λ s. independent_covers list edges rise least.conflict least.suffices x y s (least_independent list edges least x
          y s),
      covering_in list edges least.conflict least.suffices x y,
    )

    back : ((x y : Instr) → Among edges x y ↔ Covering list x y) → IsLeast list edges
    back same = record {
      conflict = λ x y s. ((same x y).0 s).0;
      suffices = λ x y p. more (Covering list) (Among edges) (λ a b c. (same a b).1 c) x y
          (covering_suffice list rise x y p);
      least = λ others inside enough x y s. covering_in list others inside enough x y ((same x y).0 s);
    }

pub source_law : SourceLaw
source_law list x z y c d same = by (cases_order x.count z.count)
  where
    by : (x.count ≡ z.count) ⊎ (x.count < z.count) ⊎ (z.count < x.count) → x ≡ z
    by (inl e) = instr_eq x z same e
    by (inr (inl lt)) = absurd (c.1 z (one (ConflictPair list) x z (inl (same, lt))) (one (ConflictPair list) z y
        (inr d.0)))
    by (inr (inr lt)) = absurd (d.1 x (one (ConflictPair list) z x (inl (sym same, lt))) (one (ConflictPair list) x y
        (inr c.0)))

pub one_least_law : OneLeastLaw
one_least_law list edges others p q x y =
    (p.least others q.conflict q.suffices x y, q.least edges p.conflict p.suffices x y)
