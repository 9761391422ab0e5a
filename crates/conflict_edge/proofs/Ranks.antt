-- The place in the list of the last access at or before an instruction. Pairs go up in it, so nothing leads to itself.
use Rattle.std.proofs.Common.{◌≡◌, ℕ, zero, suc, ◌<◌, ◌≤◌, ◌⊎◌, List, [], ◌∷◌, length, refl, sym, ◌∙◌, ap, subst, inl}
use Rattle.std.proofs.Common.{inr, arith, true, false, cond}
use Rattle.std.proofs.lemmas.Bool.{cases_Bool}
use Rattle.clock_core.specs.Order.{ProgramOrder, Step, Path, Before}
use Rattle.conflict_edge.proofs.History.{Pair, Rising, reaches-false, reaches-yes, reaches-no, ends, older}
use Rattle.conflict_edge.specs.Clocks.{reaches}
use Rattle.conflict_edge.specs.Conflicts.{StandsIn}
use Rattle.rtr_types.specs.declared.access.Access.{Access}
use Rattle.rtr_types.specs.declared.instr.Instr.{Instr}

pub rank : List Access → Instr → ℕ
rank [] y = 0
rank (a ∷ h) y = cond (reaches a y) (suc (length h)) (rank h y)

pub rank-newest : (a : Access) (h : List Access) (y : Instr) → reaches a y ≡ true → rank (a ∷ h) y ≡ suc (length h)
unfolding rank
rank-newest a h y e = rw e refl

pub rank-older : (a : Access) (h : List Access) (y : Instr) → reaches a y ≡ false → rank (a ∷ h) y ≡ rank h y
unfolding rank
rank-older a h y e = rw e refl

pub rank-le : (h : List Access) (y : Instr) → rank h y ≤ length h
unfolding rank
rank-le [] y = omega arith
rank-le (a ∷ h) y =
    elim (cases_Bool (reaches a y)) [
      | inl e ↦ rw e (omega arith)
      | inr e ↦ rw e (omega (arith, rank-le h y))
    ]

pub rank-program : (h : List Access) (x y : Instr) → x.core ≡ y.core → x.count ≤ y.count → rank h x ≤ rank h y
unfolding rank
rank-program [] x y p q = omega arith
rank-program (a ∷ h) x y p q =
    elim (cases_Bool (reaches a y)) [
      | inl e ↦ elim (cases_Bool (reaches a x)) [
        | inl d ↦ rw (e, d) (omega arith)
        | inr d ↦ rw (e, d) (omega (arith, rank-le h x))
      ]
      | inr e ↦
          let n : reaches a x ≡ false = reaches-no a x (λ (s : a.at.core ≡ x.core). let t =
          reaches-false a y e (s ∙ p) in omega arith) in
          rw (e, n) (rank-program h x y p q)
    ]

pub rank-pair : (h : List Access) (x y : Instr) → Rising h → Pair h x y → rank h x < rank h y
rank-pair [] x y rising p = absurd p
rank-pair (a ∷ h) x y rising (inl p) =
    let yes : reaches a y ≡ true = subst (λ (z : Instr). reaches a z ≡ true) p.0
    (reaches-yes a a.at refl (omega arith)) in
    let no : reaches a x ≡ false = older a h p.1.0 x rising p.1.1 p.1.2 in
    omega (arith, rank-newest a h y yes, rank-older a h x no, rank-le h x)
rank-pair (a ∷ h) x y rising (inr p) =
    let e = ends h x y p in
    let no_x : reaches a x ≡ false = older a h e.first x rising e.first_stands e.first_at in
    let no_y : reaches a y ≡ false = older a h e.second y rising e.second_stands e.second_at in
    omega (arith, rank-older a h y no_y, rank-older a h x no_x, rank-pair h x y rising.2 p)

-- an instruction before an access has a lower rank
pub rank-access : (h : List Access) (a : Access) (x : Instr) → Rising h → StandsIn h a → ProgramOrder x a.at →
    rank h x < rank h a.at
rank-access [] a x rising stands p = absurd stands
rank-access (c ∷ h) a x rising (inl e) p =
    let yes : reaches c a.at ≡ true = subst (λ (b : Access). reaches c b.at ≡ true) e
    (reaches-yes c c.at refl (omega arith)) in
    let same : c.at.count ≡ a.at.count = ap (λ (b : Access). b.at.count) e in
    let no : reaches c x ≡ false = reaches-no c x (λ (s : c.at.core ≡ x.core). omega (arith, p.1)) in
    omega (arith, rank-newest c h a.at yes, rank-older c h x no, rank-le h x)
rank-access (c ∷ h) a x rising (inr stands) p =
    let no_a : reaches c a.at ≡ false = older c h a a.at rising stands refl in
    let no : reaches c x ≡ false = reaches-no c x (λ (s : c.at.core ≡ x.core). let lt = rising.1 a stands (sym p.0
    ∙ sym s) in omega (arith, p.1)) in
    omega (arith, rank-older c h a.at no_a, rank-older c h x no, rank-access h a x rising.2 stands p)

-- what a path leads to: rank falls nowhere, and it goes up but along one core
pub record Goes (h : List Access) (x y : Instr) : Type 0 where
  pub rank_le : rank h x ≤ rank h y
  pub way : ProgramOrder x y ⊎ (rank h x < rank h y)

pub step-goes : (h : List Access) → Rising h → (x y : Instr) → Step (Pair h) x y → Goes h x y
step-goes h rising x y (inl p) = record { rank_le = rank-program h x y p.0 (let q = p.1 in omega arith); way = inl p }
step-goes h rising x y (inr p) = let lt = rank-pair h x y rising p in record { rank_le = omega arith; way = inr lt }

goes-then : (h : List Access) (x y z : Instr) → Goes h x y → Goes h y z → Goes h x z
goes-then h x y z p q = record {
  rank_le = let a = p.rank_le in let b = q.rank_le in omega arith;
  way =
      ways p.way q.way;
}
  where
    ways : ProgramOrder x y ⊎ (rank h x < rank h y) → ProgramOrder y z ⊎ (rank h y < rank h z) →
        ProgramOrder x z ⊎ (rank h x < rank h z)
    ways (inl s) (inl t) = inl (s.0 ∙ t.0, let a = s.1 in let b = t.1 in omega arith)
    ways (inl s) (inr t) = inr (let a = p.rank_le in omega arith)
    ways (inr s) _ = inr (let b = q.rank_le in omega arith)

path-goes : (h : List Access) → Rising h → (n : ℕ) (x y : Instr) → Path (Pair h) n x y → Goes h x y
path-goes h rising zero x y p = step-goes h rising x y p
path-goes h rising (suc n) x y p = goes-then h x p.0 y (step-goes h rising x p.0 p.1) (path-goes h rising n p.0 y p.2)

pub goes : (h : List Access) → Rising h → (x y : Instr) → Before (Pair h) x y → Goes h x y
goes h rising x y p = path-goes h rising p.0 x y p.1

-- nothing leads to itself
pub no_cycle : (h : List Access) → Rising h → (x : Instr) → Before (Pair h) x x → ⊥
no_cycle h rising x p = no (goes h rising x x p).way
  where
    no : ProgramOrder x x ⊎ (rank h x < rank h x) → ⊥
    no (inl s) = let lt = s.1 in omega arith
    no (inr lt) = omega arith

-- what leads to an access has a lower rank
pub rank-before : (h : List Access) → Rising h → (a : Access) (x y : Instr) → StandsIn h a → a.at ≡ y →
    Before (Pair h) x y → rank h x < rank h y
rank-before h rising a x y stands e p = to (goes h rising x y p).way
  where
    to : ProgramOrder x y ⊎ (rank h x < rank h y) → rank h x < rank h y
    to (inl s) = subst (λ (z : Instr). rank h x < rank h z) e (rank-access h a x rising stands
        (subst (λ (z : Instr). ProgramOrder x z) (sym e) s))
    to (inr lt) = lt
