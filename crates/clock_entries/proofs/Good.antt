-- Good entries grow along paths.
use Rattle.std.proofs.Common.{inl, inr, ◌≡◌, ◌≢◌, ◌⊎◌, ℕ, zero, suc, ◌+◌, ◌-◌, ◌≤◌, List, refl, sym, ap, ◌∙◌, arith}
use Rattle.std.proofs.Common.{true, false}
use Rattle.std.proofs.lemmas.Bool.{cases_Bool, cases_eq}
use Rattle.rtr_types.specs.declared.instr.Instr.{Instr}
use Rattle.rtr_types.specs.declared.instr.Edge.{Edge}
use Rattle.clock_core.specs.Order.{Step, Path, IsOrLeads, Among}
use Rattle.clock_core.specs.Reach.{with_own}
use Rattle.clock_core.proofs.Reach.{own_same, own_other}
use Rattle.clock_entries.specs.Ends.{instr, is_end, IsEnd}
use Rattle.clock_entries.specs.Entries.{Entry, IsLastEntry, AreGood}
use Rattle.clock_entries.specs.Laws.{GoodIsAtLeastLaw}
use Rattle.clock_entries.proofs.LastEntries.{end_source, end_target, not_end, minus_one}

rises_once : (edges : List Edge) (entry : Entry) → IsLastEntry edges entry → AreGood edges entry → (c n i : ℕ) → i ≢ c →
    entry (instr c n) i ≤ entry (instr c (suc n)) i
rises_once edges entry last good c n i ne = by (cases_Bool (is_end edges (instr c (suc n))))
  where
    same : entry (instr c (suc n - 1)) i ≡ entry (instr c n) i
    same = ap (λ (k : ℕ). entry (instr c k) i) (minus_one n)

    by : (is_end edges (instr c (suc n)) ≡ true) ⊎ (is_end edges (instr c (suc n)) ≡ false) →
        entry (instr c n) i ≤ entry (instr c (suc n)) i
    by (inl t) = let le = (good (instr c (suc n)) t).rises i ne in let e = same in omega arith
    by (inr f) =
        let e = same in
        let q = last.stays (instr c (suc n)) (omega arith) (not_end edges (instr c (suc n)) f) i in
        omega arith

rises_by : (edges : List Edge) (entry : Entry) → IsLastEntry edges entry → AreGood edges entry → (c m d i : ℕ) → i ≢ c →
    entry (instr c m) i ≤ entry (instr c (m + d)) i
rises_by edges entry last good c m zero i ne =
    let e : entry (instr c (m + 0)) i ≡ entry (instr c m) i = ap (λ (k : ℕ). entry (instr c k) i) (omega arith) in
    omega arith
rises_by edges entry last good c m (suc d) i ne =
    let le = rises_by edges entry last good c m d i ne in
    let once = rises_once edges entry last good c (m + d) i ne in
    let e : entry (instr c (m + suc d)) i ≡ entry (instr c (suc (m + d))) i =
    ap (λ (k : ℕ). entry (instr c k) i) (omega arith) in
    omega arith

-- along a core
pub rises : (edges : List Edge) (entry : Entry) → IsLastEntry edges entry → AreGood edges entry → (c m n i : ℕ) →
    m ≤ n → i ≢ c →
    entry (instr c m) i ≤ entry (instr c n) i
rises edges entry last good c m n i le ne =
    let r = rises_by edges entry last good c m (n - m) i ne in
    let e : entry (instr c (m + (n - m))) i ≡ entry (instr c n) i = ap (λ (k : ℕ). entry (instr c k) i) (omega arith) in
    omega arith

-- at an edge end the own count stands in the entry
pub own_stands : (edges : List Edge) (entry : Entry) (x : Instr) (i : ℕ) → AreGood edges entry → IsEnd edges x →
    with_own x (entry x) i ≡ entry x i
own_stands edges entry x i good end = by (cases_eq i x.core)
  where
    by : (i ≡ x.core) ⊎ (i ≢ x.core) → with_own x (entry x) i ≡ entry x i
    by (inl e) = own_same x (entry x) i e ∙ sym (good x end).own ∙ ap (λ (k : ℕ). entry x k) (sym e)
    by (inr ne) = own_other x (entry x) i ne

step_up : (edges : List Edge) (entry : Entry) → IsLastEntry edges entry → AreGood edges entry → (z y : Instr) (i : ℕ) →
    Step (Among edges) z y → with_own z (entry z) i ≤ with_own y (entry y) i
step_up edges entry last good z y i (inr a) =
    let s = end_source edges z y a in
    let t = end_target edges z y a in
    let p = own_stands edges entry z i good s in
    let q = own_stands edges entry y i good t in
    let le = (good y t).sources z a i in
    omega arith
step_up edges entry last good z y i (inl s) = by (cases_eq i y.core)
  where
    by : (i ≡ y.core) ⊎ (i ≢ y.core) → with_own z (entry z) i ≤ with_own y (entry y) i
    by (inl e) =
        let p = own_same z (entry z) i (e ∙ sym s.0) in
        let q = own_same y (entry y) i e in
        let lt = s.1 in
        omega arith
    by (inr ne) =
        let p = own_other z (entry z) i (λ e. ne (e ∙ s.0)) in
        let q = own_other y (entry y) i ne in
        let r = rises edges entry last good y.core z.count y.count i (let lt = s.1 in omega arith) ne in
        let e : entry z i ≡ entry (instr y.core z.count) i = ap (λ (c : ℕ). entry (instr c z.count) i) s.0 in
        omega arith

path_up : (edges : List Edge) (entry : Entry) → IsLastEntry edges entry → AreGood edges entry →
    (n : ℕ) (z y : Instr) (i : ℕ) → Path (Among edges) n z y →
    with_own z (entry z) i ≤ with_own y (entry y) i
path_up edges entry last good zero z y i s = step_up edges entry last good z y i s
path_up edges entry last good (suc n) z y i p =
    let a = step_up edges entry last good z p.0 i p.1 in
    let b = path_up edges entry last good n p.0 y i p.2 in
    omega arith

-- whatever leads to y is in y's entry, or is of y's core and not later
pub known : (edges : List Edge) (entry : Entry) → IsLastEntry edges entry → AreGood edges entry → (z y : Instr) →
    IsOrLeads (Among edges) z y → z.count ≤ with_own y (entry y) z.core
known edges entry last good z y (inl e) = let f = own_same y (entry y) z.core (ap (λ (x : Instr). x.core) e) in
    let g : z.count ≡ y.count = ap (λ (x : Instr). x.count) e in omega arith
known edges entry last good z y (inr p) =
    let f = own_same z (entry z) z.core refl in
    let le = path_up edges entry last good p.0 z y z.core p.1 in
    omega arith

pub good_is_at_least : GoodIsAtLeastLaw
good_is_at_least edges entry exact last good is_exact x end i = by (at_least_one (exact x i))
  where
    at_least_one : (n : ℕ) → (n ≡ 0) ⊎ (1 ≤ n)
    at_least_one n = grind arith

    by : (exact x i ≡ 0) ⊎ (1 ≤ exact x i) → exact x i ≤ entry x i
    by (inl e) = omega arith
    by (inr pos) =
        let z : Instr = instr i (exact x i) in
        let le =
        known edges entry last good (instr i (exact x i)) x
        ((is_exact x end (instr i (exact x i)) pos).0 (omega arith)) in
        let e = own_stands edges entry x i good end in
        omega arith
