-- Paths, over any relation.
use Rattle.std.proofs.Common.{◌≡◌, ℕ, zero, suc, ◌⊎◌, subst, refl, inl, inr, arith, true}
use Rattle.std.proofs.lemmas.Bool.Decides.{nat_tests}
use Rattle.rtr_types.specs.declared.instr.Instr.{Instr}
use Rattle.rtr_types.specs.Accesses.{is_same}
use Rattle.rtr_types.proofs.Instrs.{instr_eq}
use Rattle.clock_core.specs.Order.{Relation, Step, Path, Before, Within}

pub joined_at : (E : Relation) (n : ℕ) (x y z : Instr) → Path E n x y → Before E y z → Before E x z
joined_at E zero x y z s p = (suc p.0, (y, s, p.1))
joined_at E (suc n) x y z s p = let q = joined_at E n s.0 y z s.2 p in (suc q.0, (s.0, s.1, q.1))

-- a path from x to y and one from y to z make one from x to z
pub joined : (E : Relation) (x y z : Instr) → Before E x y → Before E y z → Before E x z
joined E x y z p q = joined_at E p.0 x y z p.1 q

-- a step is a path
pub one : (E : Relation) (x y : Instr) → Step E x y → Before E x y
one E x y s = (zero, s)

-- a step of E that has a path in F
pub step_via : (E F : Relation) (x y : Instr) → Step E x y → (E x y → Before F x y) → Before F x y
step_via E F x y (inl s) f = (zero, inl s)
step_via E F x y (inr s) f = f s

pub mapped_at : (E F : Relation) → Within E (Before F) → (n : ℕ) (x y : Instr) → Path E n x y → Before F x y
mapped_at E F f zero x y p = step_via E F x y p (f x y)
mapped_at E F f (suc n) x y p = joined F x p.0 y (step_via E F x p.0 p.1 (f x p.0)) (mapped_at E F f n p.0 y p.2)

-- where each pair of E has a path in F, so has each path of E
pub mapped : (E F : Relation) → Within E (Before F) → (x y : Instr) → Before E x y → Before F x y
mapped E F f x y p = mapped_at E F f p.0 x y p.1

-- a larger relation has the paths
pub more : (E F : Relation) → Within E F → (x y : Instr) → Before E x y → Before F x y
more E F within x y p = mapped E F (λ a b s. one F a b (inr (within a b s))) x y p

-- the last step of a path
pub last_at : (E : Relation) (n : ℕ) (x y : Instr) → Path E n x y → (w : Instr) × ((x ≡ w) ⊎ Before E x w) × Step E w y
last_at E zero x y s = (x, inl refl, s)
last_at E (suc n) x y p = let r = last_at E n p.0 y p.2 in (r.0, inr (upto r.1), r.2)
  where
    upto : {w : Instr} → (p.0 ≡ w) ⊎ Before E p.0 w → Before E x w
    upto {w} (inl e) = subst (λ (z : Instr). Before E x z) e (one E x p.0 p.1)
    upto {w} (inr q) = joined E x p.0 w (one E x p.0 p.1) q

abbrev instr_of : ℕ → ℕ → Instr
instr_of c n = record { core = c; count = n }

pub same_instr : (x y : Instr) → is_same x y ≡ true → x ≡ y
same_instr x y t = let a : x.core ≡ y.core = grind (arith, nat_tests) in let b : x.count ≡ y.count =
    grind (arith, nat_tests) in instr_eq x y a b
