-- Cores that are ready: the tests, and the sources as instructions.
use Rattle.std.proofs.Common.{◌≡◌, ℕ, zero, suc, ◌+◌, ◌≤◌, List, [], ◌∷◌, length, refl, ap, subst, ◌∙◌, arith, true}
use Rattle.std.proofs.Common.{false, Bool, nat_eq, ◌&&◌, ◌||◌, not}
use Rattle.std.specs.Prelude.{slice_index, nat_lt, nat_le}
use Rattle.std.specs.List.{Contains}
use Rattle.std.specs.Cmp.Derive.{both_true}
use Rattle.std.proofs.lemmas.Bool.{and_parts}
use Rattle.std.proofs.lemmas.Bool.Decides.{nat_tests}
use Rattle.rtr_types.specs.declared.instr.Edge.{Edge}
use Rattle.rtr_types.specs.declared.instr.Instr.{Instr}
use Rattle.replay_core.specs.Plans.{Plan}
use Rattle.replay_core.specs.Play.{instr}
use Rattle.replay_core.specs.Orders.{Sourced, Ready, is_sourced, is_ready}
use Rattle.replay_core.specs.Laws.{SourcedLaw, ReadyTestLaw}

or_left : (p q u : Bool) → (not (p && q) || u) ≡ true → p ≡ true → q ≡ true → u ≡ true
or_left true true u e f g = e
or_left true false u e f g = absurd (cc)
or_left false q u e f g = absurd (cc)

met_true : (e : Edge) (f : ℕ → ℕ) (c n : ℕ) →
    (not (nat_eq e.to.core c && nat_eq e.to.count n) || nat_le e.from.count (f e.from.core)) ≡ true → e.to.core ≡ c →
    e.to.count ≡ n → e.from.count ≤ f e.from.core
met_true e f c n t p q =
    let a : nat_eq e.to.core c ≡ true = grind (arith, nat_tests) in
    let b : nat_eq e.to.count n ≡ true = grind (arith, nat_tests) in
    let u : nat_le e.from.count (f e.from.core) ≡ true =
    or_left (nat_eq e.to.core c) (nat_eq e.to.count n) (nat_le e.from.count (f e.from.core)) t a b in
    grind (arith, nat_tests)

pub sourced_true : (es : List Edge) (f : ℕ → ℕ) (c n : ℕ) → is_sourced es f c n ≡ true → Sourced es f c n
sourced_true [] f c n t = tt
sourced_true (e ∷ es) f c n t =
    let p = and_parts (not (nat_eq e.to.core c && nat_eq e.to.count n) || nat_le e.from.count (f e.from.core))
    (is_sourced es f c n) t in
    (met_true e f c n p.0, sourced_true es f c n p.1)

met_is : (p q u : Bool) → (p ≡ true → q ≡ true → u ≡ true) → (not (p && q) || u) ≡ true
met_is true true u h = h refl refl
met_is true false u h = refl
met_is false q u h = refl

pub sourced_is : (es : List Edge) (f : ℕ → ℕ) (c n : ℕ) → Sourced es f c n → is_sourced es f c n ≡ true
sourced_is [] f c n s = refl
sourced_is (e ∷ es) f c n s =
    both_true
    (met_is (nat_eq e.to.core c) (nat_eq e.to.count n) (nat_le e.from.count (f e.from.core))
    (λ p q. let a : e.to.core ≡ c = grind (arith, nat_tests) in let b : e.to.count ≡ n = grind (arith, nat_tests) in
    let d = s.0 a b in
    grind (arith, nat_tests)))
    (sourced_is es f c n s.1)

pub ready_true : (p : Plan) (f : ℕ → ℕ) (c : ℕ) → is_ready p f c ≡ true → Ready p f c
ready_true p f c t =
    let one = and_parts (nat_lt c (length p.totals))
    (nat_lt (f c) (slice_index p.totals c) && is_sourced p.edges f c (f c + 1)) t in
    let two = and_parts (nat_lt (f c) (slice_index p.totals c)) (is_sourced p.edges f c (f c + 1)) one.1 in
    let a : nat_lt c (length p.totals) ≡ true = one.0 in
    let b : nat_lt (f c) (slice_index p.totals c) ≡ true = two.0 in
    record {
      inside = grind (arith, nat_tests);
      below = grind (arith, nat_tests);
      sourced =
          sourced_true p.edges f c (f c + 1) two.1;
    }

pub ready_is : (p : Plan) (f : ℕ → ℕ) (c : ℕ) → Ready p f c → is_ready p f c ≡ true
ready_is p f c h =
    let i = h.inside in
    let b = h.below in
    let one : nat_lt c (length p.totals) ≡ true = grind (arith, nat_tests) in
    let two : nat_lt (f c) (slice_index p.totals c) ≡ true = grind (arith, nat_tests) in
    rw (one, two) (sourced_is p.edges f c (f c + 1) h.sourced)

pub ready_test : ReadyTestLaw
ready_test p f c = (ready_true p f c, ready_is p f c)

-- ---- the sources, one by one

-- the edge at the head, or one behind it
head : {X : Type 0} (x : X) (xs : List X) → Contains (x ∷ xs) x
head x xs = (0, omega arith, refl)

behind : {X : Type 0} (x : X) (xs : List X) (y : X) → Contains xs y → Contains (x ∷ xs) y
behind x xs y (k, below, is) = (suc k, omega arith, is)

pub source_within : (edges : List Edge) (f : ℕ → ℕ) (c n : ℕ) → Sourced edges f c n → (from : Instr) →
    Contains edges (record { from = from; to = instr c n }) → from.count ≤ f from.core
source_within [] f c n s from (k, below, is) = absurd (omega arith)
source_within (e ∷ edges) f c n s from (zero, below, is) =
    let le = s.0 (ap (λ (x : Edge). x.to.core) is) (ap (λ (x : Edge). x.to.count) is) in
    subst (λ (x : Instr). x.count ≤ f x.core) (ap (λ (x : Edge). x.from) is) le
source_within (e ∷ edges) f c n s from (suc k, below, is) = source_within edges f c n s.1 from (k, omega arith, is)

pub within_sourced : (edges : List Edge) (f : ℕ → ℕ) (c n : ℕ) →
    ((from : Instr) → Contains edges (record { from = from; to = instr c n }) → from.count ≤ f from.core) →
    Sourced edges f c n
within_sourced [] f c n each = tt
within_sourced (e ∷ edges) f c n each = (
  λ core count. each e.from (subst (λ (x : Edge). Contains (e ∷ edges) x) (same core count) (head e edges)),
  within_sourced edges f c n (λ from has. each from (behind e edges (record { from = from; to = instr c n }) has)),
)
  where
    same : e.to.core ≡ c → e.to.count ≡ n → e ≡ record { from = e.from; to = instr c n }
    same core count = ap (λ (i : ℕ). edge i e.to.count) core ∙ ap (λ (i : ℕ). edge c i) count
      where
        edge : ℕ → ℕ → Edge
        edge core count = record { from = e.from; to = instr core count }

pub sourced_law : SourcedLaw
sourced_law edges f c n = (source_within edges f c n, within_sourced edges f c n)
