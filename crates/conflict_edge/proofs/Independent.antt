-- Pairs that none of the others imply are covering pairs, and a least set has no others.
use Rattle.std.proofs.Common.{◌≡◌, ◌≢◌, ℕ, zero, suc, ◌⊎◌, List, [], ◌∷◌, sym, ◌∙◌, ap, subst, inl, inr}
use Rattle.std.proofs.lemmas.Bool.{cases_eq}
use Rattle.clock_core.proofs.Paths.{joined, one, mapped}
use Rattle.clock_core.specs.Order.{Relation, Within, Step, Path, Before, Among}
use Rattle.conflict_edge.specs.Least.{Others}
use Rattle.rtr_types.specs.declared.instr.Edge.{Edge}
use Rattle.rtr_types.specs.declared.instr.Instr.{Instr}
use Rattle.rtr_types.proofs.Instrs.{instr_eq}

pub cases_instr : (x y : Instr) → (x ≡ y) ⊎ (x ≢ y)
cases_instr x y = elim (cases_eq x.core y.core) [
  | inl p ↦ elim (cases_eq x.count y.count) [
    | inl q ↦ inl (instr_eq x y p q)
    | inr q ↦ inr (λ e. q (ap (λ (z : Instr). z.count) e))
  ]
  | inr p ↦ inr (λ e. p (ap (λ (z : Instr). z.core) e))
]

-- a step that ends before y isn't the edge into y, and one that begins after x isn't the edge out of x
step_into : (C E : Relation) → ((x : Instr) → Before C x x → ⊥) → (x y u v : Instr) → Step E u v → Before C v y →
    Step (Others E x y) u v
step_into C E acyclic x y u v (inl s) after = inl s
step_into C E acyclic x y u v (inr s) after =
    inr (s, λ _ e. acyclic y (subst (λ (w : Instr). Before C w y) e after))

step_from : (C E : Relation) → ((x : Instr) → Before C x x → ⊥) → (x y u v : Instr) → Step E u v → Before C x u →
    Step (Others E x y) u v
step_from C E acyclic x y u v (inl s) before = inl s
step_from C E acyclic x y u v (inr s) before =
    inr (s, λ e _. acyclic x (subst (λ (w : Instr). Before C x w) e before))

-- nor has a path that ends before y such an edge
no_edge_into : (C E : Relation) → Within E C → ((x : Instr) → Before C x x → ⊥) → (x y : Instr) →
    (n : ℕ) (u v : Instr) → Path E n u v → Before C v y →
    Path (Others E x y) n u v
no_edge_into C E within acyclic x y zero u v p after = step_into C E acyclic x y u v p after
no_edge_into C E within acyclic x y (suc n) u v p after =
    let rest = no_edge_into C E within acyclic x y n p.0 v p.2 after in
    let on : Before C p.0 y = joined C p.0 v y (mapped E C (λ a b s. one C a b (inr (within a b s))) p.0 v (n, p.2))
    after in
    (p.0, step_into C E acyclic x y u p.0 p.1 on, rest)

-- nor one that begins after x
no_edge_from : (C E : Relation) → Within E C → ((x : Instr) → Before C x x → ⊥) → (x y : Instr) →
    (n : ℕ) (u v : Instr) → Path E n u v → Before C x u →
    Path (Others E x y) n u v
no_edge_from C E within acyclic x y zero u v p before = step_from C E acyclic x y u v p before
no_edge_from C E within acyclic x y (suc n) u v p before =
    let on : Before C x p.0 = joined C x u p.0 before (mapped E C (λ a b s. one C a b (inr (within a b s))) u p.0 (
      zero,
      p.1,
    )) in
    (p.0, step_from C E acyclic x y u p.0 p.1 before, no_edge_from C E within acyclic x y n p.0 v p.2 on)

-- where E suffices, a pair with something strictly between is implied by the others
pub implied : (C E : Relation) → Within E C → Within C (Before E) → ((x : Instr) → Before C x x → ⊥) → (x y z : Instr) →
    Before C x z → Before C z y →
    Before (Others E x y) x y
implied C E within suffices acyclic x y z p q =
    let p' = mapped C E suffices x z p in
    let q' = mapped C E suffices z y q in
    joined (Others E x y) x z y (p'.0, no_edge_into C E within acyclic x y p'.0 x z p'.1 q) (
      q'.0,
      no_edge_from C E within acyclic x y q'.0 z y q'.1 p,
    )

-- a pair with nothing between is in each sufficient set
pub in_each : (C E : Relation) → Within E C → Within C (Before E) → ((x y : Instr) → C x y → x.core ≢ y.core) →
    (x y : Instr) → C x y →
    ((z : Instr) → Before C x z → Before C z y → ⊥) → E x y
in_each C E within suffices cores x y c nothing = from (suffices x y c).0 (suffices x y c).1
  where
    to_c : (a b : Instr) → Before E a b → Before C a b
    to_c = mapped E C (λ a b s. one C a b (inr (within a b s)))

    from_step : Step E x y → E x y
    from_step (inl s) = absurd (cores x y c s.0)
    from_step (inr s) = s

    from : (n : ℕ) → Path E n x y → E x y
    from zero p = from_step p
    from (suc n) p = absurd (nothing p.0 (to_c x p.0 (zero, p.1)) (to_c p.0 y (n, p.2)))

-- the others suffice where they imply the pair
pub others_suffice : (C E : Relation) → Within C (Before E) → (x y : Instr) → Before (Others E x y) x y →
    Within C (Before (Others E x y))
others_suffice C E suffices x y p u v c = mapped E (Others E x y) via u v (suffices u v c)
  where
    by : (a b : Instr) → E a b → (a ≡ x) ⊎ (a ≢ x) → (b ≡ y) ⊎ (b ≢ y) → Before (Others E x y) a b
    by a b s (inl e) (inl f) = subst (λ (w : Instr). Before (Others E x y) w b) (sym e)
        (subst (λ (w : Instr). Before (Others E x y) x w) (sym f) p)
    by a b s (inl e) (inr f) = one (Others E x y) a b (inr (s, λ _ g. f g))
    by a b s (inr e) _ = one (Others E x y) a b (inr (s, λ g _. e g))

    via : (a b : Instr) → E a b → Before (Others E x y) a b
    via a b s = by a b s (cases_instr a x) (cases_instr b y)

-- the list without an edge
pub without : (es : List Edge) (x y : Instr) → (fs : List Edge) × Within (Among fs) (Others (Among es) x y) × Within
    (Others (Among es) x y) (Among fs)
without [] x y = ([], λ a b s. absurd s, λ a b s. absurd s.0)
without (e ∷ es) x y = pick (without es x y) (cases_instr e.from x) (cases_instr e.to y)
  where
    keep : (fs : List Edge) × Within (Among fs) (Others (Among es) x y) × Within (Others (Among es) x y) (Among fs) →
        (e.from ≡ x → e.to ≡ y → ⊥) →
        (fs : List Edge) × Within (Among fs) (Others (Among (e ∷ es)) x y) × Within (Others (Among (e ∷ es)) x y)
        (Among fs)
    keep r other = (e ∷ r.0, into, out)
      where
        into : Within (Among (e ∷ r.0)) (Others (Among (e ∷ es)) x y)
        into a b (inl s) = (inl s, λ p q. other (s.0 ∙ p) (s.1 ∙ q))
        into a b (inr s) = let t = r.1 a b s in (inr t.0, t.1)

        out_by : (a b : Instr) → Among (e ∷ es) a b → (a ≡ x → b ≡ y → ⊥) → Among (e ∷ r.0) a b
        out_by a b (inl s) f = inl s
        out_by a b (inr s) f = inr (r.2 a b (s, f))

        out : Within (Others (Among (e ∷ es)) x y) (Among (e ∷ r.0))
        out a b s = out_by a b s.0 s.1

    skip : (fs : List Edge) × Within (Among fs) (Others (Among es) x y) × Within (Others (Among es) x y) (Among fs) →
        e.from ≡ x → e.to ≡ y → (fs : List Edge)
        × Within (Among fs) (Others (Among (e ∷ es)) x y) × Within (Others (Among (e ∷ es)) x y) (Among fs)
    skip r p q = (r.0, into, out)
      where
        into : Within (Among r.0) (Others (Among (e ∷ es)) x y)
        into a b s = let t = r.1 a b s in (inr t.0, t.1)

        out_by : (a b : Instr) → Among (e ∷ es) a b → (a ≡ x → b ≡ y → ⊥) → Among r.0 a b
        out_by a b (inl s) f = absurd (f (sym s.0 ∙ p) (sym s.1 ∙ q))
        out_by a b (inr s) f = r.2 a b (s, f)

        out : Within (Others (Among (e ∷ es)) x y) (Among r.0)
        out a b s = out_by a b s.0 s.1

    pick : (fs : List Edge) × Within (Among fs) (Others (Among es) x y) × Within (Others (Among es) x y) (Among fs) →
        (e.from ≡ x) ⊎ (e.from ≢ x) →
        (e.to ≡ y) ⊎ (e.to ≢ y) → (fs : List Edge) × Within (Among fs) (Others (Among (e ∷ es)) x y) × Within
        (Others (Among (e ∷ es)) x y) (Among fs)
    pick r (inl p) (inl q) = skip r p q
    pick r (inl p) (inr q) = keep r (λ _ g. q g)
    pick r (inr p) _ = keep r (λ g _. p g)
