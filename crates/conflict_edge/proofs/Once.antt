-- No edge stands twice.
use Rattle.std.proofs.Common.{◌≡◌, ℕ, ◌+◌, ◌-◌, ◌<◌, ◌≤◌, ◌⊎◌, List, [], ◌∷◌, reverse, ◌++◌, refl, sym, ◌∙◌, ap, subst}
use Rattle.std.proofs.Common.{inl, inr, arith, true, false, nat_eq}
use Rattle.std.proofs.Common.{◌&&◌, cond, drop}
use Rattle.std.proofs.lemmas.Bool.{and_parts, cases_Bool, eqb-true}
use Rattle.std.specs.List.{count_by, sum_by}
use Rattle.std.specs.List.Sorted.{IsPermutation}
use Rattle.std.proofs.lemmas.List.Sorted.{sum_by-IsPermutation}
use Rattle.std.proofs.lemmas.List.Sums.{sum_by-append}
use Rattle.clock_core.specs.Order.{Among}
use Rattle.conflict_edge.proofs.History.{Rising}
use Rattle.conflict_edge.proofs.CoveringPairs.{Cover}
use Rattle.conflict_edge.proofs.Ranks.{rank}
use Rattle.conflict_edge.proofs.Scan.{FoundFrom, Reached, rank-newer, rank-mid}
use Rattle.conflict_edge.proofs.ScanSteps.{At, push_found, skip_found, uncovered}
use Rattle.conflict_edge.specs.Conflicts.{Conflicts, StandsIn}
use Rattle.conflict_edge.specs.Least.{is_edge, AreOnce}
use Rattle.rtr_types.specs.declared.TheConstants.{CORES_MAX}
use Rattle.rtr_types.specs.declared.access.Access.{Access}
use Rattle.rtr_types.specs.declared.instr.Edge.{Edge}
use Rattle.rtr_types.specs.declared.instr.Instr.{Instr}
use Rattle.rtr_types.proofs.Instrs.{instr_eq}

is_edge-true : (e : Edge) (x y : Instr) → is_edge x y e ≡ true → (e.from ≡ x) × (e.to ≡ y)
is_edge-true e x y h =
    let p = and_parts (nat_eq e.from.core x.core && nat_eq e.from.count x.count) (nat_eq e.to.core y.core && nat_eq
    e.to.count y.count) h in
    let q = and_parts (nat_eq e.from.core x.core) (nat_eq e.from.count x.count) p.0 in
    let r = and_parts (nat_eq e.to.core y.core) (nat_eq e.to.count y.count) p.1 in (
      instr_eq e.from x (eqb-true e.from.core x.core q.0) (eqb-true e.from.count x.count q.1),
      instr_eq e.to y (eqb-true e.to.core y.core r.0) (eqb-true e.to.count y.count r.1),
    )

count-none : (es : List Edge) (x y : Instr) → (Among es x y → ⊥) → count_by (is_edge x y) es ≡ 0
count-none [] x y f = refl
count-none (e ∷ es) x y f = by (cases_Bool (is_edge x y e)) (count-none es x y (λ s. f (inr s)))
  where
    by : (is_edge x y e ≡ true) ⊎ (is_edge x y e ≡ false) → count_by (is_edge x y) es ≡ 0 →
        count_by (is_edge x y) (e ∷ es) ≡ 0
    by (inl h) ih = absurd (f (inl (is_edge-true e x y h)))
    by (inr h) ih = rw (h, ih) refl

-- a new edge is pushed once
pub once_push : (es : List Edge) (e : Edge) (fs : List Edge) → fs ≡ es ++ (e ∷ []) → AreOnce es →
    (Among es e.from e.to → ⊥) → AreOnce fs
once_push es e fs is once fresh x y = by (cases_Bool (is_edge x y e))
  where
    test : Edge → ℕ
    test d = cond (is_edge x y d) 1 0

    total : sum_by (λ d. cond (is_edge x y d) 1 0) fs ≡ sum_by (λ d. cond (is_edge x y d) 1 0) es +
        (0 + cond (is_edge x y e) 1 0)
    total = ap (λ (l : List Edge). sum_by (λ d. cond (is_edge x y d) 1 0) l) is
        ∙ sum_by-append (λ d. cond (is_edge x y d) 1 0) es (e ∷ [])

    by : (is_edge x y e ≡ true) ⊎ (is_edge x y e ≡ false) → count_by (is_edge x y) fs ≤ 1
    by (inl h) =
        let p = is_edge-true e x y h in
        let none = count-none es x y (λ s. fresh (subst (λ (v : Instr). Among es v e.to) (sym p.0)
        (subst (λ (v : Instr). Among es x v) (sym p.1) s))) in
        let t : sum_by (λ d. cond (is_edge x y d) 1 0) fs ≡ sum_by (λ d. cond (is_edge x y d) 1 0) es + (0 + 1) =
        rw h at total in
        omega (arith, t, none)
    by (inr h) =
        let t : sum_by (λ d. cond (is_edge x y d) 1 0) fs ≡ sum_by (λ d. cond (is_edge x y d) 1 0) es + (0 + 0) =
        rw h at total in
        omega (arith, t, once x y)

-- order changes no count
pub once_shuffled : (es fs : List Edge) → IsPermutation es fs → AreOnce es → AreOnce fs
once_shuffled es fs p once x y = omega (arith, sum_by-IsPermutation (λ d. cond (is_edge x y d) 1 0) es fs p, once x y)

-- the edge from b is not among those found from newer accesses
pub not_yet : (e : List Access) (s : ℕ) (a b : Access) (old new : List Edge) → At e s b → Rising (a ∷ reverse e) →
    ((x : Instr) → Among old x a.at → ⊥) →
    FoundFrom (reverse e) (reverse (drop s e)) a old new → Among new b.at a.at → ⊥
not_yet e s a b old new around rising apart found among = by ((found b.at a.at).0 among)
  where
    newer : List Access
    newer = reverse (drop s e)

    r' : Rising (newer ++ (b ∷ around.older))
    r' = subst Rising around.split rising.2

    same : (r : Access) → StandsIn newer r → r.at ≡ b.at → ⊥
    same r t f =
        let g : rank (newer ++ (b ∷ around.older)) r.at ≡ rank (newer ++ (b ∷ around.older)) b.at =
        ap (λ (v : Instr). rank (newer ++ (b ∷ around.older)) v) f in
        absurd (omega (arith, rank-newer newer b around.older r r' t, rank-mid newer b around.older r', g))

    by : Among old b.at a.at ⊎ ((a.at ≡ a.at) × (r : Access) × StandsIn newer r × (r.at ≡ b.at) × Cover (a ∷ reverse e)
        b.at a.at) → ⊥
    by (inl t) = apart b.at t
    by (inr q) = same q.1 q.2 q.3

-- ---- what the edges are after one step of the scan

pub record Noted (e : List Access) (s : ℕ) (a : Access) (old next : List Edge) : Type 0 where
  pub found : FoundFrom (reverse e) (reverse (drop (s - 1) e)) a old next
  pub once : AreOnce next

-- a source that the clock lacks is pushed
pub noted_push : (e : List Access) (s : ℕ) (a b : Access) (m : ℕ → ℕ) (old new next : List Edge) →
    At e s b → Rising (a ∷ reverse e) → b.at.core < CORES_MAX → Conflicts b a → ((x : Instr) → Among old x a.at → ⊥) →
    Reached (reverse e) (reverse (drop s e)) a m → m b.at.core < b.at.count →
    FoundFrom (reverse e) (reverse (drop s e)) a old new → AreOnce new →
    next ≡ new ++ (record { from = b.at; to = a.at } ∷ []) → Noted e s a old next
noted_push e s a b m old new next around rising fits conflict apart reached lacks found once is = record {
  found = push_found e s a b old new next edge around refl refl is (uncovered e s a b m around rising fits conflict
      reached lacks) found;
  once = once_push new edge next is once (not_yet e s a b old new around rising apart found);
}
  where
    edge : Edge
    edge = record { from = b.at; to = a.at }

-- what is no covering source is left out
pub noted_skip : (e : List Access) (s : ℕ) (a b : Access) (old new next : List Edge) → At e s b →
    (Cover (a ∷ reverse e) b.at a.at → ⊥) →
    FoundFrom (reverse e) (reverse (drop s e)) a old new → AreOnce new → next ≡ new → Noted e s a old next
noted_skip e s a b old new next around none found once is = record {
  found = subst (λ (es : List Edge). FoundFrom (reverse e) (reverse (drop (s - 1) e)) a old es) (sym is)
      (skip_found e s a b old new around none found);
  once = subst AreOnce (sym is) once;
}
