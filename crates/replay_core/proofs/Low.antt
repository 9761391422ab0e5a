-- The low order takes the lowest ready core at each place, until there is none.
use Rattle.std.proofs.Common.{inl, inr, ◌≡◌, ◌⊎◌, ℕ, subst, zero, suc, ◌+◌, ◌-◌, ◌<◌, ◌≤◌, List, [], ◌∷◌, length, sym}
use Rattle.std.proofs.Common.{refl, ap, arith, true, false}
use Rattle.std.specs.Prelude.{slice_index, sum, Option, Some, None, cond}
use Rattle.std.proofs.lemmas.Bool.{cases_Bool}
use Rattle.std.proofs.lemmas.List.Sums.{sum_by-cons}
use native.Mathlib.Decide.{ℕ_discrete}
use Rattle.replay_core.specs.Plans.{Plan}
use Rattle.replay_core.specs.Orders.{bump, nought, Ready, is_ready, lowest, lowest_ready, low_next, low_from, low_order}
use Rattle.replay_core.specs.Laws.{Lowest, LowOrderLaw, LowestOrderedLaw, LowOrderedLaw, LowestStuckLaw}
use Rattle.replay_core.proofs.Counts.{bump_else, bump_same}
use Rattle.replay_core.proofs.Ready.{ready_true, ready_is}

-- what is known of the lowest of the n cores from c on
abbrev pub IsLowest : Plan → (ℕ → ℕ) → ℕ → ℕ → Option ℕ → Type 0
IsLowest p f c n None = (d : ℕ) → c ≤ d → d < c + n → Ready p f d → ⊥
IsLowest p f c n (Some e) = Ready p f e × ((d : ℕ) → c ≤ d → d < e → Ready p f d → ⊥)

not_ready : (p : Plan) (f : ℕ → ℕ) (c : ℕ) → is_ready p f c ≡ false → Ready p f c → ⊥
not_ready p f c t h = let u = ready_is p f c h in cc

pub lowest_is : (p : Plan) (f : ℕ → ℕ) (c n : ℕ) → IsLowest p f c n (lowest p f c n)
lowest_is p f c zero = λ d from to h. absurd (omega arith)
lowest_is p f c (suc n) = by (cases_Bool (is_ready p f c)) (lowest_is p f (c + 1) n)
  where
    over : (o : Option ℕ) → is_ready p f c ≡ false → IsLowest p f (c + 1) n o → IsLowest p f c (suc n) o
    over None t h = λ d from to s.
        elim (ℕ_discrete c d) [
          | yes e ↦ not_ready p f c t (subst (λ (x : ℕ). Ready p f x) (sym e) s)
          | no ne ↦ h d
              (omega arith) (omega arith) s
        ]
    over (Some e) t h = (
      h.0,
      λ d from to s. elim (ℕ_discrete c d)
          [ yes z ↦ not_ready p f c t (subst (λ (x : ℕ). Ready p f x) (sym z) s) | no ne ↦ h.1 d (omega arith) to s ],
    )

    by : (is_ready p f c ≡ true) ⊎ (is_ready p f c ≡ false) → IsLowest p f (c + 1) n (lowest p f (c + 1) n) →
        IsLowest p f c (suc n) (cond (is_ready p f c) (Some c) (lowest p f (c + 1) n))
    by (inl t) h = rw t (ready_true p f c t, λ d from to s. absurd (omega arith))
    by (inr t) h = rw t (over (lowest p f (c + 1) n) t h)

-- how many places are left, of the cores from i on
abbrev pub left : List ℕ → (ℕ → ℕ) → ℕ → ℕ
left [] f i = 0
left (t ∷ ts) f i = (t - f i) + left ts f (i + 1)

pub left_nought : (ts : List ℕ) (i : ℕ) → left ts nought i ≡ sum ts
left_nought [] i = refl
left_nought (t ∷ ts) i = let a = left_nought ts (i + 1) in let b : sum (t ∷ ts) ≡ t + sum ts =
    sum_by-cons (λ (x : ℕ). x) t ts in omega arith

left_else : (ts : List ℕ) (f : ℕ → ℕ) (i j : ℕ) → j < i → left ts (bump f j) i ≡ left ts f i
left_else [] f i j lt = refl
left_else (t ∷ ts) f i j lt = let a = left_else ts f (i + 1) j (omega arith) in let b =
    bump_else f j i (λ e. omega arith) in omega arith

-- one less after a place of a core below its total
pub left_step : (ts : List ℕ) (f : ℕ → ℕ) (i k c : ℕ) → c ≡ i + k → k < length ts → f c < slice_index ts k →
    left ts (bump f c) i + 1 ≡ left ts f i
left_step [] f i k c e h lt = absurd (omega arith)
left_step (t ∷ ts) f i zero c e h lt =
    let q : i ≡ c = omega arith in
    let a = left_else ts f (i + 1) c (omega arith) in
    let b : bump f c i ≡ f i + 1 = bump_same f c i q in
    let d = ap f q in
    omega arith
left_step (t ∷ ts) f i (suc k) c e h lt =
    let a = left_step ts f (i + 1) k c (omega arith) (omega arith) lt in
    let b = bump_else f c i (λ q. omega arith) in
    omega arith

left_some : (ts : List ℕ) (f : ℕ → ℕ) (i k c : ℕ) → c ≡ i + k → k < length ts → f c < slice_index ts k → 1 ≤ left ts f i
left_some ts f i k c e h lt = let a = left_step ts f i k c e h lt in omega arith

pub low_is : (p : Plan) (n : ℕ) (f : ℕ → ℕ) → left p.totals f 0 ≤ n → Lowest p f (low_from p n f)
low_is p zero f le = λ c h. let a = left_some p.totals f 0 c c (omega arith) h.inside h.below in omega arith
low_is p (suc n) f le = by (lowest_ready p f) (lowest_is p f 0 (length p.totals)) (λ c. low_is p n (bump f c))
  where
    by : (o : Option ℕ) → IsLowest p f 0 (length p.totals) o →
        ((c : ℕ) → left p.totals (bump f c) 0 ≤ n → Lowest p (bump f c) (low_from p n (bump f c)))
        → Lowest p f (low_next o (λ c. low_from p n (bump f c)))
    by None h go = λ c s. h c (omega arith) (let i = s.inside in omega arith) s
    by (Some c) h go = (
      h.0,
      (λ d lt s. h.1 d (omega arith) lt s),
      go c (let a = left_step p.totals f 0 c c (omega arith) h.0.inside h.0.below in omega arith),
    )

pub low_order_law : LowOrderLaw
unfolding low_order
low_order_law p = low_is p (sum p.totals) nought (let a = left_nought p.totals 0 in omega arith)

pub lowest_ordered : LowestOrderedLaw
lowest_ordered p f [] h = tt
lowest_ordered p f (c ∷ cs) h = (h.0, lowest_ordered p (bump f c) cs h.2)

pub low_ordered : LowOrderedLaw
low_ordered p = lowest_ordered p nought (low_order p) (low_order_law p)

pub lowest_stuck : LowestStuckLaw
lowest_stuck p f [] h c ready = h c ready
lowest_stuck p f (d ∷ ds) h c ready = lowest_stuck p (bump f d) ds h.2 c ready
