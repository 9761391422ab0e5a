-- The clock is reachability.
use Rattle.std.proofs.Common.{◌≡◌, ℕ, zero, suc, ◌<◌, ◌≤◌, ◌⊎◌, List, [], ◌∷◌, refl, sym, ◌∙◌, ap, subst, inl, inr}
use Rattle.std.proofs.Common.{arith, true, false, nat_eq, max}
use Rattle.std.proofs.Math.Nat.{eq-or-lt_of_le}
use Rattle.std.proofs.lemmas.Bool.{cases_Bool, cases_lt}
use Rattle.std.proofs.lemmas.Bool.Decides.{nat_tests}
use Rattle.clock_core.proofs.Paths.{joined, one}
use Rattle.clock_core.specs.Order.{Relation, Step, Path, Before}
use Rattle.clock_core.proofs.Reach.{reached_by}
use Rattle.conflict_edge.proofs.Ranks.{no_cycle}
use Rattle.conflict_edge.proofs.History.{Pair, Rising, reaches-true, reaches-false, reaches-yes, reaches-no}
use Rattle.conflict_edge.proofs.History.{do_conflict-true, do_conflict-yes, ends, older}
use Rattle.conflict_edge.specs.Clocks.{reaches, greatest, clock}
use Rattle.conflict_edge.specs.Conflicts.{Conflicts, do_conflict, StandsIn}
use Rattle.rtr_types.specs.declared.access.Access.{Access}
use Rattle.rtr_types.specs.declared.instr.Instr.{Instr}
use Rattle.rtr_types.proofs.Instrs.{instr_eq}

-- the equations of the clock
pub clock-newest : (a : Access) (h : List Access) (y : Instr) (i : ℕ) → reaches a y ≡ true →
    clock (a ∷ h) y i ≡ max (clock h y i) (greatest (λ b. clock h b.at i) a h)
unfolding clock
clock-newest a h y i e = rw e refl

pub clock-older : (a : Access) (h : List Access) (y : Instr) (i : ℕ) → reaches a y ≡ false →
    clock (a ∷ h) y i ≡ clock h y i
unfolding clock
clock-older a h y i e = rw e refl

-- it is at least each
pub greatest-le : (f : Access → ℕ) (a : Access) (h : List Access) (b : Access) → StandsIn h b → Conflicts b a →
    f b ≤ greatest f a h
unfolding greatest
greatest-le f a [] b stands c = absurd stands
greatest-le f a (d ∷ h) b (inl e) c =
    let yes : do_conflict d a ≡ true = subst (λ (x : Access). do_conflict x a ≡ true) (sym e) (do_conflict-yes b a c) in
    let same : f d ≡ f b = ap f e in
    rw yes (omega arith)
greatest-le f a (d ∷ h) b (inr stands) c =
    elim (cases_Bool (do_conflict d a)) [
      | inl e ↦ rw e (omega (arith, greatest-le f a h b stands c))
      | inr e ↦ rw e (greatest-le f a h b stands c)
    ]

-- it is 0 or one of them
pub greatest-is : (f : Access → ℕ) (a : Access) (h : List Access) (n : ℕ) → 1 ≤ n → n ≤ greatest f a h →
    (b : Access) × StandsIn h b × Conflicts b a × (n ≤ f b)
unfolding greatest
greatest-is f a [] n pos le = absurd (omega arith)
greatest-is f a (d ∷ h) n pos le =
    elim (cases_Bool (do_conflict d a)) [
      | inl e ↦
          let le' : n ≤ max (f d) (greatest f a h) = rw e at le in
          elim (reached_by n (f d) (greatest f a h) le') [
            | inl p ↦ (d, inl refl, do_conflict-true d a e, p)
            | inr p ↦ let q = greatest-is f a h n pos p in (q.0, inr q.1, q.2, q.3)
          ]
      | inr e ↦
          let le' : n ≤ greatest f a h = rw e at le in
          let q = greatest-is f a h n pos le' in (q.0, inr q.1, q.2, q.3)
    ]

-- y is in its own clock
pub clock-own : (h : List Access) (y : Instr) → y.count ≤ clock h y y.core
unfolding clock
clock-own [] y = let e : nat_eq y.core y.core ≡ true = grind (arith, nat_tests) in rw e (omega arith)
clock-own (a ∷ h) y =
    elim (cases_Bool (reaches a y)) [
      | inl e ↦ omega (arith, clock-newest a h y y.core e, clock-own h y)
      | inr e ↦ omega (arith, clock-older a h y y.core e, clock-own h y)
    ]

-- along a core the clock doesn't fall
pub clock-program : (h : List Access) (x y : Instr) (i : ℕ) → x.core ≡ y.core → x.count ≤ y.count →
    clock h x i ≤ clock h y i
unfolding clock
clock-program [] x y i p q =
    elim (cases_Bool (nat_eq y.core i)) [
      | inl e ↦ let d : nat_eq x.core i ≡ true = subst (λ (c : ℕ). nat_eq c i ≡ true) (sym p) e in rw (e, d) q
      | inr e ↦ let d : nat_eq x.core i ≡ false = subst (λ (c : ℕ). nat_eq c i ≡ false) (sym p) e in
          rw (e, d) (omega arith)
    ]
clock-program (a ∷ h) x y i p q =
    elim (cases_Bool (reaches a y)) [
      | inl e ↦ elim (cases_Bool (reaches a x)) [
        | inl d ↦ omega (arith, clock-newest a h y i e, clock-newest a h x i d, clock-program h x y i p q)
        | inr d ↦ omega (arith, clock-newest a h y i e, clock-older a h x i d, clock-program h x y i p q)
      ]
      | inr e ↦
          let n : reaches a x ≡ false = reaches-no a x (λ (s : a.at.core ≡ x.core). let t =
          reaches-false a y e (s ∙ p) in omega arith) in
          omega (arith, clock-older a h y i e, clock-older a h x i n, clock-program h x y i p q)
    ]

-- along a conflict pair the clock does not fall
pub clock-pair : (h : List Access) (x y : Instr) (i : ℕ) → Rising h → Pair h x y → clock h x i ≤ clock h y i
clock-pair [] x y i rising p = absurd p
clock-pair (a ∷ h) x y i rising (inl p) =
    let yes : reaches a y ≡ true = subst (λ (z : Instr). reaches a z ≡ true) p.0
    (reaches-yes a a.at refl (omega arith)) in
    let no : reaches a x ≡ false = older a h p.1.0 x rising p.1.1 p.1.2 in
    let big = greatest-le (λ b. clock h b.at i) a h p.1.0 p.1.1 p.1.3 in
    let same : clock h p.1.0.at i ≡ clock h x i = ap (λ (z : Instr). clock h z i) p.1.2 in
    omega (arith, clock-newest a h y i yes, clock-older a h x i no, big, same)
clock-pair (a ∷ h) x y i rising (inr p) =
    let e = ends h x y p in
    let no_x : reaches a x ≡ false = older a h e.first x rising e.first_stands e.first_at in
    let no_y : reaches a y ≡ false = older a h e.second y rising e.second_stands e.second_at in
    omega (arith, clock-older a h y i no_y, clock-older a h x i no_x, clock-pair h x y i rising.2 p)

clock-step : (h : List Access) (x y : Instr) (i : ℕ) → Rising h → Step (Pair h) x y → clock h x i ≤ clock h y i
clock-step h x y i rising (inl p) = clock-program h x y i p.0 (let q = p.1 in omega arith)
clock-step h x y i rising (inr p) = clock-pair h x y i rising p

clock-path : (h : List Access) (i : ℕ) → Rising h → (n : ℕ) (x y : Instr) → Path (Pair h) n x y →
    clock h x i ≤ clock h y i
clock-path h i rising zero x y p = clock-step h x y i rising p
clock-path h i rising (suc n) x y p = omega (arith, clock-step h x p.0 i rising p.1, clock-path h i rising n p.0 y p.2)

-- what leads to y is in its clock
pub clock-before : (h : List Access) (x y : Instr) → Rising h → Before (Pair h) x y → x.count ≤ clock h y x.core
clock-before h x y rising p = omega (arith, clock-own h x, clock-path h x.core rising p.0 x y p.1)

widen-step : (a : Access) (h : List Access) (x y : Instr) → Step (Pair h) x y → Step (Pair (a ∷ h)) x y
widen-step a h x y (inl p) = inl p
widen-step a h x y (inr p) = inr (inr p)

widen-path : (a : Access) (h : List Access) (n : ℕ) (x y : Instr) → Path (Pair h) n x y → Path (Pair (a ∷ h)) n x y
widen-path a h zero x y p = widen-step a h x y p
widen-path a h (suc n) x y p = (p.0, widen-step a h x p.0 p.1, widen-path a h n p.0 y p.2)

pub widen : (a : Access) (h : List Access) (x y : Instr) → Before (Pair h) x y → Before (Pair (a ∷ h)) x y
widen a h x y p = (p.0, widen-path a h p.0 x y p.1)

-- x is y or leads to it
abbrev pub UpTo : List Access → Relation
UpTo h x y = (x ≡ y) ⊎ Before (Pair h) x y

pub widen_up : (a : Access) (h : List Access) (x y : Instr) → UpTo h x y → UpTo (a ∷ h) x y
widen_up a h x y (inl e) = inl e
widen_up a h x y (inr p) = inr (widen a h x y p)

-- x leads to a through b
through : (a : Access) (h : List Access) (x : Instr) (b : Access) → StandsIn h b → Conflicts b a → UpTo h x b.at →
    Before (Pair (a ∷ h)) x a.at
through a h x b stands c (inl e) = one (Pair (a ∷ h)) x a.at (inr (inl (refl, (b, stands, sym e, c))))
through a h x b stands c (inr p) =
    joined (Pair (a ∷ h)) x b.at a.at (widen a h x b.at p) (one (Pair (a ∷ h)) b.at a.at
    (inr (inl (refl, (b, stands, refl, c)))))

-- along a core from a to y
onwards : (a : Access) (h : List Access) (x y : Instr) → (a.at.core ≡ y.core) × (a.at.count ≤ y.count) →
    Before (Pair (a ∷ h)) x a.at →
    Before (Pair (a ∷ h)) x y
onwards a h x y r p = elim (eq-or-lt_of_le r.1) [
  | inl e ↦ subst (λ (z : Instr). Before (Pair (a ∷ h)) x z) (instr_eq a.at y r.0 e) p
  | inr lt ↦ joined (Pair (a ∷ h)) x a.at y p (one (Pair (a ∷ h)) a.at y (inl (r.0, lt)))
]

-- what is in the clock of y is y or leads to it
pub clock-up_to : (h : List Access) (x y : Instr) → 1 ≤ x.count → x.count ≤ clock h y x.core → UpTo h x y
unfolding clock
clock-up_to [] x y pos le =
    elim (cases_Bool (nat_eq y.core x.core)) [
      | inl e ↦
          let same : y.core ≡ x.core = grind (arith, nat_tests) in
          let le' : x.count ≤ y.count = rw e at le in
          elim (eq-or-lt_of_le le') [
            | inl d ↦ inl (instr_eq x y (sym same) d)
            | inr lt ↦ inr (one (Pair []) x y (inl (sym same, lt)))
          ]
      | inr e ↦ let le' : x.count ≤ 0 = rw e at le in absurd (omega arith)
    ]
clock-up_to (a ∷ h) x y pos le =
    elim (cases_Bool (reaches a y)) [
      | inl e ↦
          let le' : x.count ≤ max (clock h y x.core) (greatest (λ b. clock h b.at x.core) a h) = rw e at le in
          elim (reached_by x.count (clock h y x.core) (greatest (λ b. clock h b.at x.core) a h) le') [
            | inl p ↦ widen_up a h x y (clock-up_to h x y pos p)
            | inr p ↦
                let g = greatest-is (λ b. clock h b.at x.core) a h x.count pos p in
                inr (onwards a h x y (reaches-true a y e) (through a h x g.0 g.1 g.2 (clock-up_to h x g.0.at pos g.3)))
          ]
      | inr e ↦ let le' : x.count ≤ clock h y x.core = rw e at le in widen_up a h x y (clock-up_to h x y pos le')
    ]

-- at its own place the clock of y has the count of y
pub own_clock : (h : List Access) (y : Instr) → Rising h → clock h y y.core ≡ y.count
own_clock h y rising = by (cases_lt y.count (clock h y y.core))
  where
    x : Instr
    x = record { core = y.core; count = clock h y y.core }

    no : y.count < clock h y y.core → UpTo h x y → ⊥
    no lt (inl e) = let f : clock h y y.core ≡ y.count = ap (λ (v : Instr). v.count) e in omega arith
    no lt (inr p) = no_cycle h rising y (joined (Pair h) y x y (one (Pair h) y x (inl (refl, lt))) p)

    by : (y.count < clock h y y.core) ⊎ (clock h y y.core ≤ y.count) → clock h y y.core ≡ y.count
    by (inr le) = omega (arith, clock-own h y)
    by (inl lt) = absurd (no lt (clock-up_to h x y (omega arith) (omega arith)))
