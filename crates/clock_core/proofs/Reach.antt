-- A clock merged over predecessors is reachability.
use Rattle.std.proofs.Common.{◌≡◌, ◌≢◌, ℕ, ◌-◌, ◌<◌, ◌≤◌, ◌⊎◌, ◌↔◌, List, [], ◌∷◌, refl, sym, ◌∙◌, ap, subst, inl, inr}
use Rattle.std.proofs.Common.{arith, true, false, nat_eq, max}
use Rattle.std.proofs.lemmas.Bool.Decides.{nat_tests}
use Rattle.std.proofs.lemmas.Bool.{cases_eq, cases_lt, cases_order}
use Rattle.std.proofs.Math.Nat.{eq-or-lt_of_le}
use Rattle.rtr_types.specs.declared.instr.Instr.{Instr}
use Rattle.rtr_types.proofs.Instrs.{instr_eq}
use Rattle.clock_core.specs.Order.{Relation, ProgramOrder, Step, Before, IsOrLeads, Among, previous}
use Rattle.clock_core.specs.Reach.{IsClock, merged_over, with_own, IsOneOf, MergeLaw, OneClockLaw}
use Rattle.clock_core.proofs.Paths.{joined, one, last_at}

merged_over-up : (p : ℕ → ℕ) (clock : Instr → ℕ → ℕ) (zs : List Instr) (i : ℕ) → p i ≤ merged_over p clock zs i
merged_over-up p clock [] i = omega arith
merged_over-up p clock (z ∷ zs) i = omega (arith, merged_over-up p clock zs i)

merged_over-at : (p : ℕ → ℕ) (clock : Instr → ℕ → ℕ) (zs : List Instr) (z : Instr) (i : ℕ) → IsOneOf zs z →
    clock z i ≤ merged_over p clock zs i
merged_over-at p clock [] z i s = absurd s
merged_over-at p clock (w ∷ zs) z i (inl e) = let same : clock w i ≡ clock z i = ap (λ (v : Instr). clock v i) e in
    omega arith
merged_over-at p clock (w ∷ zs) z i (inr s) = omega (arith, merged_over-at p clock zs z i s)

-- what the greater of two reaches, one of them does
pub reached_by : (n x y : ℕ) → n ≤ max x y → (n ≤ x) ⊎ (n ≤ y)
reached_by n x y le = grind arith

merged_over-from : (p : ℕ → ℕ) (clock : Instr → ℕ → ℕ) (zs : List Instr) (n i : ℕ) → n ≤ merged_over p clock zs i →
    (n ≤ p i) ⊎ ((z : Instr) × IsOneOf zs z × (n ≤ clock z i))
merged_over-from p clock [] n i le = inl le
merged_over-from p clock (z ∷ zs) n i le = by (reached_by n (clock z i) (merged_over p clock zs i) le)
    (merged_over-from p clock zs n i)
  where
    by : (n ≤ clock z i) ⊎ (n ≤ merged_over p clock zs i) → (n ≤ merged_over p clock zs i →
        (n ≤ p i) ⊎ ((v : Instr) × IsOneOf zs v × (n ≤ clock v i))) →
        (n ≤ p i) ⊎ ((v : Instr) × IsOneOf (z ∷ zs) v × (n ≤ clock v i))
    by (inl a) f = inr (z, inl refl, a)
    by (inr a) f = on (f a)
      where
        on : (n ≤ p i) ⊎ ((v : Instr) × IsOneOf zs v × (n ≤ clock v i)) →
            (n ≤ p i) ⊎ ((v : Instr) × IsOneOf (z ∷ zs) v × (n ≤ clock v i))
        on (inl q) = inl q
        on (inr q) = inr (q.0, inr q.1, q.2)

pub own_same : (y : Instr) (p : ℕ → ℕ) (i : ℕ) → i ≡ y.core → with_own y p i ≡ y.count
own_same y p i e = let t : nat_eq i y.core ≡ true = grind (arith, nat_tests) in rw t refl

pub own_other : (y : Instr) (p : ℕ → ℕ) (i : ℕ) → i ≢ y.core → with_own y p i ≡ p i
own_other y p i e = let t : nat_eq i y.core ≡ false = grind (arith, nat_tests) in rw t refl

pub merge_any : (E : Relation) (y : Instr) (sources : List Instr) (p : ℕ → ℕ) (clock : Instr → ℕ → ℕ) →
    1 ≤ y.count → (Before E y y → ⊥) → ((z : Instr) → E z y ↔ IsOneOf sources z) → IsClock E (previous y) p →
    ((z : Instr) → IsOneOf sources z → IsClock E z (clock z)) → IsClock E y (with_own y (merged_over p clock sources))
merge_any E y sources p clock pos acyclic source p_is clock_is x x_pos =
    (to (cases_eq x.core y.core), back (cases_eq x.core y.core))
  where
    own_step : ProgramOrder (previous y) y
    own_step = (refl, omega arith)

    up : (z : Instr) → IsOrLeads E x z → Step E z y → Before E x y
    up z (inl e) s = subst (λ (v : Instr). Before E v y) (sym e) (one E z y s)
    up z (inr q) s = joined E x z y q (one E z y s)

    same : x.core ≡ y.core → (x.count ≡ y.count) ⊎ (x.count < y.count) → IsOrLeads E x y
    same e (inl f) = inl (instr_eq x y e f)
    same e (inr lt) = inr (one E x y (inl (e, lt)))

    other : (x.count ≤ p x.core) ⊎ ((z : Instr) × IsOneOf sources z × (x.count ≤ clock z x.core)) → IsOrLeads E x y
    other (inl le) = inr (up (previous y) ((p_is x x_pos).0 le) (inl own_step))
    other (inr q) = inr (up q.0 ((clock_is q.0 q.1 x x_pos).0 q.2) (inr ((source q.0).1 q.1)))

    to : (x.core ≡ y.core) ⊎ (x.core ≢ y.core) → x.count ≤ with_own y (merged_over p clock sources) x.core →
        IsOrLeads E x y
    to (inl e) le = let f = own_same y (merged_over p clock sources) x.core e in
        same e (eq-or-lt_of_le {n = x.count} {m = y.count} (omega arith))
    to (inr d) le = let f = own_other y (merged_over p clock sources) x.core d in
        other (merged_over-from p clock sources x.count x.core (omega arith))

    not_later : x.core ≡ y.core → Before E x y → (y.count < x.count) ⊎ (x.count ≤ y.count) → x.count ≤ y.count
    not_later e q (inr le) = le
    not_later e q (inl lt) = absurd (acyclic (joined E y x y (one E y x (inl (sym e, lt))) q))

    onto_previous : (w : Instr) → IsOrLeads E x w → x.core ≢ y.core → ProgramOrder w y →
        (w.count ≡ y.count - 1) ⊎ (w.count < y.count - 1) →
        IsOrLeads E x (previous y)
    onto_previous w u d s (inl f) = subst (λ (v : Instr). IsOrLeads E x v) (instr_eq w (previous y) s.0 f) u
    onto_previous w (inl e) d s (inr lt) = absurd (d (ap (λ (v : Instr). v.core) e ∙ s.0))
    onto_previous w (inr q) d s (inr lt) = inr (joined E x w (previous y) q (one E w (previous y) (inl (s.0, lt))))

    last : (w : Instr) → IsOrLeads E x w → x.core ≢ y.core → Step E w y → x.count ≤ merged_over p clock sources x.core
    last w u d (inl s) =
        let le = (p_is x x_pos).1 (onto_previous w u d s (eq-or-lt_of_le {n = w.count} {m = y.count - 1} (let lt =
        s.1 in omega arith))) in
        omega (arith, merged_over-up p clock sources x.core)
    last w u d (inr s) =
        let at = (source w).0 s in
        let le = (clock_is w at x x_pos).1 u in
        omega (arith, merged_over-at p clock sources w x.core at)

    back_other : x.core ≢ y.core → IsOrLeads E x y → x.count ≤ merged_over p clock sources x.core
    back_other d (inl e) = absurd (d (ap (λ (v : Instr). v.core) e))
    back_other d (inr q) = let l = last_at E q.0 x y q.1 in last l.0 l.1 d l.2

    back_same : x.core ≡ y.core → IsOrLeads E x y → x.count ≤ y.count
    back_same e (inl f) = let g : x.count ≡ y.count = ap (λ (v : Instr). v.count) f in omega arith
    back_same e (inr q) = not_later e q (cases_lt y.count x.count)

    back : (x.core ≡ y.core) ⊎ (x.core ≢ y.core) → IsOrLeads E x y → x.count ≤ with_own y (merged_over p clock sources)
        x.core
    back (inl e) u = let f = own_same y (merged_over p clock sources) x.core e in let le = back_same e u in omega arith
    back (inr d) u = let f = own_other y (merged_over p clock sources) x.core d in let le = back_other d u in
        omega arith

pub merge_law : MergeLaw
merge_law edges y sources p clock pos acyclic source p_is clock_is =
    merge_any (Among edges) y sources p clock pos acyclic source p_is clock_is

-- two numbers with the same ones below are equal
pub same_below : (m n : ℕ) → ((k : ℕ) → 1 ≤ k → (k ≤ m) ↔ (k ≤ n)) → m ≡ n
same_below m n f = by (cases_order m n)
  where
    le : (a b : ℕ) → ((k : ℕ) → 1 ≤ k → k ≤ a → k ≤ b) → b < a → ⊥
    le a b g lt = let h = g a (omega arith) (omega arith) in omega arith

    by : (m ≡ n) ⊎ ((m < n) ⊎ (n < m)) → m ≡ n
    by (inl same) = same
    by (inr (inl lt)) = absurd (le n m (λ k pos. (f k pos).1) lt)
    by (inr (inr lt)) = absurd (le m n (λ k pos. (f k pos).0) lt)

pub clock_same : (E : Relation) (y : Instr) (p q : ℕ → ℕ) → ((i : ℕ) → p i ≡ q i) → IsClock E y p → IsClock E y q
clock_same E y p q h k x pos = (
  λ le. (k x pos).0 (let e = h x.core in omega arith),
  λ u. let le = (k x pos).1 u in
      let e = h x.core in omega arith,
)

pub one_clock_any : (E : Relation) (y : Instr) (p q : ℕ → ℕ) → IsClock E y p → IsClock E y q → (i : ℕ) → p i ≡ q i
one_clock_any E y p q p_is q_is i = same_below (p i) (q i) same
  where
    same : (k : ℕ) → 1 ≤ k → (k ≤ p i) ↔ (k ≤ q i)
    same k pos = let x : Instr = record { core = i; count = k } in
        (λ le. (q_is x pos).1 ((p_is x pos).0 le), λ le. (p_is x pos).1 ((q_is x pos).0 le))

pub one_clock_law : OneClockLaw
one_clock_law edges y first second a b i = one_clock_any (Among edges) y first second a b i
