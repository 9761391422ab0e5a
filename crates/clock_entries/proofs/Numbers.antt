-- The numbers of edge ends: an end's place in its core's list.
use Rattle.std.proofs.Common.{inl, inr, ◌≡◌, ◌⊎◌, ℕ, zero, suc, ◌+◌, ◌<◌, ◌≤◌, List, [], ◌∷◌, ◌++◌, length, get_or, sym}
use Rattle.std.proofs.Common.{ap, ◌∙◌, subst, arith, true}
use Rattle.std.proofs.Common.{false, leb}
use Rattle.std.specs.List.Sorted.{IsPartitionPoint, IsNonDecreasingBy}
use Rattle.std.proofs.lemmas.Bool.{leb-true, leb-false, cases_Bool, cases_order}
use Rattle.std.proofs.lemmas.List.{get_or_append_left, get_or_push, length_push}
use Rattle.std.proofs.lemmas.List.Sorted.{IsNonDecreasingBy-from_default}
use Rattle.rtr_types.specs.declared.instr.Edge.{Edge}
use Rattle.clock_entries.specs.Ends.{instr, is_end, ends_to}
use Rattle.clock_entries.proofs.LastEntries.{ends_none, ends_more, ends_stay, at_most}

-- what a list of ends is one count further on
pub record Grown (edges : List Edge) (c n : ℕ) : Type 0 where
  pub ended : is_end edges (instr c (suc n)) ≡ true
  pub list : ends_to edges c (suc n) ≡ ends_to edges c n ++ suc n ∷ []
  pub len : length (ends_to edges c (suc n)) ≡ length (ends_to edges c n) + 1

pub grows : (edges : List Edge) (c n : ℕ) → Grown edges c n ⊎ (ends_to edges c (suc n) ≡ ends_to edges c n)
grows edges c n = by (cases_Bool (is_end edges (instr c (suc n))))
  where
    by : (is_end edges (instr c (suc n)) ≡ true) ⊎ (is_end edges (instr c (suc n)) ≡ false) →
        Grown edges c n ⊎ (ends_to edges c (suc n) ≡ ends_to edges c n)
    by (inl t) = let e = ends_more edges c n t in inl (record {
      ended = t;
      list = e;
      len = ap (λ (l : List ℕ). length l) e
          ∙ length_push (ends_to edges c n) (suc n);
    })
    by (inr f) = inr (ends_stay edges c n f)

-- ends are no more than their greatest count
pub few : (edges : List Edge) (c n : ℕ) → length (ends_to edges c n) ≤ n
few edges c zero = let e = ap (λ (l : List ℕ). length l) (ends_none edges c) in omega arith
few edges c (suc n) = by (grows edges c n) (few edges c n)
  where
    by : Grown edges c n ⊎ (ends_to edges c (suc n) ≡ ends_to edges c n) → length (ends_to edges c n) ≤ n →
        length (ends_to edges c (suc n)) ≤ suc n
    by (inl g) le = let e = g.len in omega arith
    by (inr e) le = let f = ap (λ (l : List ℕ). length l) e in omega arith

-- the k-th end, from 0
abbrev pub end_at : List Edge → (c n k : ℕ) → ℕ
end_at edges c n k = get_or (ends_to edges c n) k 0

in_front : (k n : ℕ) → k < n + 1 → (k ≡ n) ⊎ (k < n)
in_front k n lt = grind arith

-- lists of ends are fronts of longer ones
pub longer : (edges : List Edge) (c m n : ℕ) → m ≤ n → length (ends_to edges c m) ≤ length (ends_to edges c n)
longer edges c m zero le =
    let e : m ≡ 0 = omega arith in
    subst (λ (k : ℕ). length (ends_to edges c k) ≤ length (ends_to edges c 0)) (sym e) (omega arith)
longer edges c m (suc n) le = by (at_most m n le) (grows edges c n) (λ l. longer edges c m n l)
  where
    by : (m ≡ suc n) ⊎ (m ≤ n) → Grown edges c n ⊎ (ends_to edges c (suc n) ≡ ends_to edges c n) →
        (m ≤ n → length (ends_to edges c m) ≤ length (ends_to edges c n)) →
        length (ends_to edges c m) ≤ length (ends_to edges c (suc n))
    by (inl e) _ _ =
        subst (λ (k : ℕ). length (ends_to edges c k) ≤ length (ends_to edges c (suc n))) (sym e) (omega arith)
    by (inr l) (inl g) go = let h = go l in let e = g.len in omega arith
    by (inr l) (inr e) go = let h = go l in let f = ap (λ (l : List ℕ). length l) e in omega arith

pub fronted : (edges : List Edge) (c m n k : ℕ) → m ≤ n → k < length (ends_to edges c m) →
    end_at edges c n k ≡ end_at edges c m k
fronted edges c m zero k le lt = let e : 0 ≡ m = omega arith in ap (λ (j : ℕ). end_at edges c j k) e
fronted edges c m (suc n) k le lt = by (at_most m n le) (grows edges c n) (λ l. fronted edges c m n k l lt)
  where
    by : (m ≡ suc n) ⊎ (m ≤ n) → Grown edges c n ⊎ (ends_to edges c (suc n) ≡ ends_to edges c n) →
        (m ≤ n → end_at edges c n k ≡ end_at edges c m k) → end_at edges c (suc n) k ≡ end_at edges c m k
    by (inl e) _ _ = ap (λ (j : ℕ). end_at edges c j k) (sym e)
    by (inr l) (inl g) go = ap (λ (l : List ℕ). get_or l k 0) g.list
        ∙ get_or_append_left (ends_to edges c n) (suc n ∷ []) 0 k (let h = longer edges c m n l in omega arith) ∙ go l
    by (inr l) (inr e) go = ap (λ (l : List ℕ). get_or l k 0) e ∙ go l

-- up to n, and from 1
pub at_low : (edges : List Edge) (c n k : ℕ) → k < length (ends_to edges c n) →
    (1 ≤ end_at edges c n k) × (end_at edges c n k ≤ n) × (is_end edges (instr c (end_at edges c n k)) ≡ true)
at_low edges c zero k lt = let e = ap (λ (l : List ℕ). length l) (ends_none edges c) in absurd (omega arith)
at_low edges c (suc n) k lt = by (grows edges c n) (λ l. at_low edges c n k l)
  where
    Low : ℕ → ℕ → Type 0
    Low m x = (1 ≤ x) × (x ≤ m) × (is_end edges (instr c x) ≡ true)

    up : (x : ℕ) → Low n x → Low (suc n) x
    up x (a, b, e) = (a, omega arith, e)

    by : Grown edges c n ⊎ (ends_to edges c (suc n) ≡ ends_to edges c n) →
        (k < length (ends_to edges c n) → Low n (end_at edges c n k)) → Low (suc n) (end_at edges c (suc n) k)
    by (inr e) go = subst (λ (l : List ℕ). Low (suc n) (get_or l k 0)) (sym e)
        (up (end_at edges c n k) (go (let f = ap (λ (l : List ℕ). length l) e in omega arith)))
    by (inl g) go = on (in_front k (length (ends_to edges c n)) (let e = g.len in omega arith))
      where
        on : (k ≡ length (ends_to edges c n)) ⊎ (k < length (ends_to edges c n)) →
            Low (suc n) (end_at edges c (suc n) k)
        on (inl e) =
            subst (λ (x : ℕ). Low (suc n) x)
            (sym (ap (λ (l : List ℕ). get_or l k 0) g.list ∙ get_or_push (ends_to edges c n) (suc n) 0 k (sym e)))
            (omega arith, omega arith, g.ended)
        on (inr l) = subst (λ (x : ℕ). Low (suc n) x) (sym (ap (λ (l : List ℕ). get_or l k 0) g.list
            ∙ get_or_append_left (ends_to edges c n) (suc n ∷ []) 0 k l)) (up (end_at edges c n k) (go l))

-- those behind the ends up to m are greater than m
pub at_high : (edges : List Edge) (c m n k : ℕ) → m ≤ n → length (ends_to edges c m) ≤ k →
    k < length (ends_to edges c n) → m < end_at edges c n k
at_high edges c m zero k le from lt = let e = ap (λ (l : List ℕ). length l) (ends_none edges c) in absurd (omega arith)
at_high edges c m (suc n) k le from lt = by (at_most m n le) (grows edges c n) (λ l h. at_high edges c m n k l from h)
  where
    by : (m ≡ suc n) ⊎ (m ≤ n) → Grown edges c n ⊎ (ends_to edges c (suc n) ≡ ends_to edges c n) →
        (m ≤ n → k < length (ends_to edges c n) → m < end_at edges c n k) → m < end_at edges c (suc n) k
    by (inl e) _ _ = let f = ap (λ (j : ℕ). length (ends_to edges c j)) e in absurd (omega arith)
    by (inr l) (inr e) go =
        let f = ap (λ (l : List ℕ). length l) e in
        let h = go l (omega arith) in
        let s = ap (λ (l : List ℕ). get_or l k 0) e in
        omega arith
    by (inr l) (inl g) go = on (in_front k (length (ends_to edges c n)) (let e = g.len in omega arith))
      where
        on : (k ≡ length (ends_to edges c n)) ⊎ (k < length (ends_to edges c n)) → m < end_at edges c (suc n) k
        on (inl e) =
            let s = ap (λ (l : List ℕ). get_or l k 0) g.list ∙ get_or_push (ends_to edges c n) (suc n) 0 k (sym e) in
            omega arith
        on (inr q) =
            let s =
            ap (λ (l : List ℕ). get_or l k 0) g.list ∙ get_or_append_left (ends_to edges c n) (suc n ∷ []) 0 k q in
            let h = go l q in
            omega arith

-- ends rise
pub ends_rise : (edges : List Edge) (c n i j : ℕ) → i < j → j < length (ends_to edges c n) →
    end_at edges c n i < end_at edges c n j
ends_rise edges c zero i j lt below = let e = ap (λ (l : List ℕ). length l) (ends_none edges c) in absurd (omega arith)
ends_rise edges c (suc n) i j lt below = by (grows edges c n) (λ h. ends_rise edges c n i j lt h)
  where
    by : Grown edges c n ⊎ (ends_to edges c (suc n) ≡ ends_to edges c n) →
        (j < length (ends_to edges c n) → end_at edges c n i < end_at edges c n j) →
        end_at edges c (suc n) i < end_at edges c (suc n) j
    by (inr e) go =
        subst (λ (l : List ℕ). get_or l i 0 < get_or l j 0) (sym e)
        (go (let f = ap (λ (l : List ℕ). length l) e in omega arith))
    by (inl g) go = on (in_front j (length (ends_to edges c n)) (let e = g.len in omega arith))
      where
        on : (j ≡ length (ends_to edges c n)) ⊎ (j < length (ends_to edges c n)) →
            end_at edges c (suc n) i < end_at edges c (suc n) j
        on (inl e) =
            let a =
            ap (λ (l : List ℕ). get_or l i 0) g.list
            ∙ get_or_append_left (ends_to edges c n) (suc n ∷ []) 0 i (omega arith) in
            let b = ap (λ (l : List ℕ). get_or l j 0) g.list ∙ get_or_push (ends_to edges c n) (suc n) 0 j (sym e) in
            let low = (at_low edges c n i (omega arith)).1 in
            omega arith
        on (inr q) =
            let a =
            ap (λ (l : List ℕ). get_or l i 0) g.list
            ∙ get_or_append_left (ends_to edges c n) (suc n ∷ []) 0 i (omega arith) in
            let b =
            ap (λ (l : List ℕ). get_or l j 0) g.list ∙ get_or_append_left (ends_to edges c n) (suc n ∷ []) 0 j q in
            let h = go q in
            omega arith

pub ends_fall_not : (edges : List Edge) (c n : ℕ) → IsNonDecreasingBy (λ (x : ℕ). x) (ends_to edges c n)
ends_fall_not edges c n =
    IsNonDecreasingBy-from_default (λ (x : ℕ). x) (ends_to edges c n) 0
    (λ i j le below. by i j (same_or_less i j le) below)
  where
    same_or_less : (i j : ℕ) → i ≤ j → (i ≡ j) ⊎ (i < j)
    same_or_less i j le = grind arith

    by : (i j : ℕ) → (i ≡ j) ⊎ (i < j) → j < length (ends_to edges c n) → end_at edges c n i ≤ end_at edges c n j
    by i j (inl e) below = let f = ap (λ (k : ℕ). end_at edges c n k) e in omega arith
    by i j (inr lt) below = let f = ends_rise edges c n i j lt below in omega arith

-- the place up to which ends are at most m is how many they are
pub counted : (edges : List Edge) (c m n place : ℕ) → m ≤ n → place ≤ length (ends_to edges c n) →
    IsPartitionPoint (λ v. leb v m ≡ true) (λ v. leb v m ≡ false) (ends_to edges c n) place →
    place ≡ length (ends_to edges c m)
counted edges c m n place le most parted = by (cases_order place (length (ends_to edges c m)))
  where
    less : place < length (ends_to edges c m) → ⊥
    less lt =
        let up = longer edges c m n le in
        let low = (at_low edges c m place lt).1 in
        let same = fronted edges c m n place le lt in
        let above = leb-false (end_at edges c n place) m (parted.1 place 0 (omega arith) (omega arith)) in
        omega arith

    more : length (ends_to edges c m) < place → ⊥
    more lt =
        let above = at_high edges c m n (length (ends_to edges c m)) le (omega arith) (omega arith) in
        let low =
        leb-true (end_at edges c n (length (ends_to edges c m))) m
        (parted.0 (length (ends_to edges c m)) 0 (omega arith) lt) in
        omega arith

    by : (place ≡ length (ends_to edges c m))
        ⊎ ((place < length (ends_to edges c m)) ⊎ (length (ends_to edges c m) < place)) →
        place ≡ length (ends_to edges c m)
    by (inl same) = same
    by (inr (inl lt)) = absurd (less lt)
    by (inr (inr lt)) = absurd (more lt)
