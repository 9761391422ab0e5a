-- Counts with one more of a core.
use Rattle.std.proofs.Common.{◌≡◌, ◌≢◌, ℕ, ◌+◌, ◌<◌, ◌≤◌, List, [], ◌∷◌, ◌++◌, eq-eqb, ne_eqb, refl, sym, ap, ◌∙◌}
use Rattle.std.proofs.Common.{subst, arith}
use native.Mathlib.Decide.{ℕ_discrete}
use Rattle.replay_core.specs.Orders.{bump, counts}
use Rattle.replay_core.specs.Laws.{CountsOnLaw, CountsMoreLaw, PlaceOf, PlaceOfLaw, OnePlaceLaw}

pub bump_here : (f : ℕ → ℕ) (c : ℕ) → bump f c c ≡ f c + 1
bump_here f c = rw (eq-eqb c c refl) refl

pub bump_else : (f : ℕ → ℕ) (c i : ℕ) → i ≢ c → bump f c i ≡ f i
bump_else f c i ne = rw (ne_eqb i c ne) refl

pub bump_same : (f : ℕ → ℕ) (c i : ℕ) → i ≡ c → bump f c i ≡ f i + 1
bump_same f c i e = subst (λ (x : ℕ). bump f x i ≡ f i + 1) e (bump_here f i)

pub bump_more : (f : ℕ → ℕ) (c i : ℕ) → f i ≤ bump f c i
bump_more f c i = elim (ℕ_discrete i c) [
  | yes e ↦ let h = bump_same f c i e in omega arith
  | no n ↦ let h = bump_else f c i n in omega arith
]

pub counts_on : CountsOnLaw
counts_on f [] ys = refl
counts_on f (x ∷ xs) ys = counts_on (bump f x) xs ys

pub counts_more : CountsMoreLaw
counts_more f [] i = omega arith
counts_more f (c ∷ order) i = let one = bump_more f c i in let rest = counts_more (bump f c) order i in omega arith

-- ---- places of a list

pub place_of : PlaceOfLaw
place_of [] f core count above most = absurd (omega arith)
place_of (c ∷ order) f core count above most = by (λ below. place_of order (bump f c) core count below most)
  where
    later : PlaceOf order (bump f c) core count → PlaceOf (c ∷ order) f core count
    later p = record {
      front = c ∷ p.front;
      rest = p.rest;
      split = ap (λ (l : List ℕ). c ∷ l) p.split;
      before =
          p.before;
    }

    by : (bump f c core < count → PlaceOf order (bump f c) core count) → PlaceOf (c ∷ order) f core count
    by on = elim (ℕ_discrete core c) [
      | yes same ↦ elim (ℕ_discrete (f core + 1) count) [
        | yes here ↦ record { front = []; rest = order; split = ap (λ (i : ℕ). i ∷ order) (sym same); before = here }
        | no there ↦ let more = bump_same f c core same in later (on (omega arith))
      ]
      | no other ↦ let as_was = bump_else f c core other in later (on (omega arith))
    ]

-- one of two lists can't come to the core's count again after its place
again : (f : ℕ → ℕ) (c core : ℕ) (other : List ℕ) → core ≡ c → f core ≡ counts (bump f c) other core → ⊥
again f c core other is same = let one = bump_same f c core is in let up = counts_more (bump f c) other core in
    omega arith

pub one_place : OnePlaceLaw
one_place order f core [] rest [] more p q same = refl
one_place order f core [] rest (c ∷ other) more p q same =
    let heads : core ∷ rest ≡ c ∷ (other ++ core ∷ more) = sym p ∙ q in
    let is : core ≡ c = cc in
    absurd (again f c core other is same)
one_place order f core (c ∷ front) rest [] more p q same =
    let heads : core ∷ more ≡ c ∷ (front ++ core ∷ rest) = sym q ∙ p in
    let is : core ≡ c = cc in
    absurd (again f c core front is (sym same))
one_place order f core (c ∷ front) rest (d ∷ other) more p q same =
    let heads : c ∷ (front ++ core ∷ rest) ≡ d ∷ (other ++ core ∷ more) = sym p ∙ q in
    let head : c ≡ d = cc in
    let tail : front ++ core ∷ rest ≡ other ++ core ∷ more = cc in
    let from : counts (bump f c) front core ≡ counts (bump f c) other core =
    same ∙ ap (λ (i : ℕ). counts (bump f i) other core) (sym head) in
    let fronts = one_place (front ++ core ∷ rest) (bump f c) core front rest other more refl tail from in
    ap (λ (l : List ℕ). c ∷ l) fronts ∙ ap (λ (i : ℕ). i ∷ other) head
