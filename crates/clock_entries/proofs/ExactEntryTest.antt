-- The test of exact entries.
use Rattle.std.proofs.Common.{inl, inr, ◌≡◌, ◌≢◌, ◌⊎◌, ◌↔◌, ℕ, ◌<◌, ◌≤◌, List, [], ◌∷◌, Bool, true, false, cond, ◌||◌}
use Rattle.std.proofs.Common.{nat_eq}
use Rattle.std.proofs.Common.{refl, sym, ap, ◌∙◌, arith}
use Rattle.std.proofs.lemmas.Bool.Decides.{nat_tests}
use Rattle.std.proofs.lemmas.Bool.{cases_lt, cases_Bool, cases_eq, and_parts}
use Rattle.rtr_types.specs.declared.instr.Instr.{Instr}
use Rattle.rtr_types.specs.declared.instr.Edge.{Edge}
use Rattle.clock_core.specs.Order.{Among, previous}
use Rattle.clock_core.specs.Reach.{IsClock, with_own}
use Rattle.clock_core.proofs.Reach.{one_clock_law, own_same, own_other, reached_by, clock_same}
use Rattle.clock_core.proofs.Paths.{same_instr}
use Rattle.clock_entries.specs.Ends.{is_same, IsEnd}
use Rattle.clock_entries.specs.Entries.{Entry}
use Rattle.clock_entries.specs.Laws.{IsBelowSources}
use Rattle.clock_entries.specs.Tests.{each_place, is_exact_at, most_before, most_of_sources, HasPlaces, ExactPassesLaw}
use Rattle.clock_entries.specs.Tests.{NextExactLaw}
use Rattle.clock_entries.proofs.LastEntries.{same_is, end_counts, end_source}
use Rattle.clock_entries.proofs.Exact.{exact_is_good, next_clock}
use Rattle.clock_entries.proofs.EntryTests.{all-places, else-true, end-each, places-all, true-both, true-else}

-- ---- the greatest count of the sources

picked : (b : Bool) (k n : ℕ) → b ≡ true → n ≤ cond b k 0 → n ≤ k
picked true k n e le = le
picked false k n e le = absurd cc

left-out : (b : Bool) (k n : ℕ) → b ≡ false → 1 ≤ n → n ≤ cond b k 0 → ⊥
left-out true k n e pos le = absurd cc
left-out false k n e pos le = omega arith

abbrev IsOfSource : List Edge → Entry → Instr → (i n : ℕ) → Type 0
IsOfSource edges entry y i n = (z : Instr) × Among edges z y × (n ≤ entry z i)

most-from : (edges : List Edge) (entry : Entry) (y : Instr) (i n : ℕ) → 1 ≤ n → n ≤ most_of_sources edges entry y i →
    IsOfSource edges entry y i n
most-from [] entry y i n pos le = absurd (omega arith)
most-from (e ∷ edges) entry y i n pos le =
    by (reached_by n (cond (is_same e.to y) (entry e.from i) 0) (most_of_sources edges entry y i) le)
    (cases_Bool (is_same e.to y))
    (λ later. most-from edges entry y i n pos later)
  where
    by : (n ≤ cond (is_same e.to y) (entry e.from i) 0) ⊎ (n ≤ most_of_sources edges entry y i) →
        (is_same e.to y ≡ true) ⊎ (is_same e.to y ≡ false) →
        (n ≤ most_of_sources edges entry y i → IsOfSource edges entry y i n) → IsOfSource (e ∷ edges) entry y i n
    by (inl a) (inl t) go = (e.from, inl (refl, same_instr e.to y t), picked (is_same e.to y) (entry e.from i) n t a)
    by (inl a) (inr f) go = absurd (left-out (is_same e.to y) (entry e.from i) n f pos a)
    by (inr a) c go = let s = go a in (s.0, inr s.1, s.2)

from-most : (edges : List Edge) (entry : Entry) (y z : Instr) (i : ℕ) → Among edges z y →
    entry z i ≤ most_of_sources edges entry y i
from-most [] entry y z i a = absurd a
from-most (e ∷ edges) entry y z i (inl is) =
    let t = same_is e.to y is.1 in
    let k : cond (is_same e.to y) (entry e.from i) 0 ≡ entry e.from i = rw t refl in
    let s : entry e.from i ≡ entry z i = ap (λ (w : Instr). entry w i) is.0 in
    omega arith
from-most (e ∷ edges) entry y z i (inr a) = omega (arith, from-most edges entry y z i a)

most-below : (edges : List Edge) (entry : Entry) (y : Instr) (i n : ℕ) → 1 ≤ n →
    (n ≤ most_before edges entry y i) ↔ IsBelowSources edges entry y i n
most-below edges entry y i n pos =
    (λ le. to (reached_by n (entry (previous y) i) (most_of_sources edges entry y i) le), back)
  where
    to : (n ≤ entry (previous y) i) ⊎ (n ≤ most_of_sources edges entry y i) → IsBelowSources edges entry y i n
    to (inl a) = inl a
    to (inr a) = inr (most-from edges entry y i n pos a)

    back : IsBelowSources edges entry y i n → n ≤ most_before edges entry y i
    back (inl a) = omega arith
    back (inr s) = let a = from-most edges entry y s.0 i s.1 in let b = s.2 in omega arith

-- nothing stands beyond the places
most-ends : (cores : ℕ) (edges : List Edge) (entry : Entry) (y : Instr) (i : ℕ) → HasPlaces cores entry → cores ≤ i →
    most_before edges entry y i ≡ 0
most-ends cores edges entry y i none le = by (none-or-some (most_before edges entry y i))
  where
    none-or-some : (n : ℕ) → (n ≡ 0) ⊎ (1 ≤ n)
    none-or-some n = grind arith

    never : IsBelowSources edges entry y i 1 → ⊥
    never (inl a) = let z = none (previous y) i le in omega arith
    never (inr s) = let z = none s.0 i le in let a = s.2 in omega arith

    by : (most_before edges entry y i ≡ 0) ⊎ (1 ≤ most_before edges entry y i) → most_before edges entry y i ≡ 0
    by (inl e) = e
    by (inr some) = absurd (never ((most-below edges entry y i 1 (omega arith)).0 some))

-- ---- exact

abbrev place_test : List Edge → Entry → Instr → ℕ → Bool
place_test edges entry y i = nat_eq i y.core || nat_eq (entry y i) (most_before edges entry y i)

pub next_exact : NextExactLaw
next_exact cores edges entry y log acyclic last none pos test own sources =
    clock_same (Among edges) y (with_own y (most_before edges entry y)) (entry y) agree
    (next_clock edges entry y (most_before edges entry y) log acyclic last pos own sources
    (λ i n ne some. most-below edges entry y i n some))
  where
    both : (nat_eq (entry y y.core) y.count ≡ true) × (each_place (place_test edges entry y) cores ≡ true)
    both = and_parts (nat_eq (entry y y.core) y.count) (each_place (place_test edges entry y) cores) test

    own_count : entry y y.core ≡ y.count
    own_count = let t = both.0 in grind (arith, nat_tests)

    other : (i : ℕ) → i ≢ y.core → (i < cores) ⊎ (cores ≤ i) → most_before edges entry y i ≡ entry y i
    other i ne (inl lt) =
        let t = all-places (place_test edges entry y) cores both.1 i lt in
        let apart : nat_eq i y.core ≡ false = grind (arith, nat_tests) in
        let u = else-true (nat_eq i y.core) (nat_eq (entry y i) (most_before edges entry y i)) t apart in
        grind (arith, nat_tests)
    other i ne (inr past) = most-ends cores edges entry y i none past ∙ sym (none y i past)

    at : (i : ℕ) → (i ≡ y.core) ⊎ (i ≢ y.core) → with_own y (most_before edges entry y) i ≡ entry y i
    at i (inl e) = own_same y (most_before edges entry y) i e ∙ sym own_count ∙ sym (ap (entry y) e)
    at i (inr ne) = own_other y (most_before edges entry y) i ne ∙ other i ne (cases_lt i cores)

    agree : (i : ℕ) → with_own y (most_before edges entry y) i ≡ entry y i
    agree i = at i (cases_eq i y.core)

pub exact_passes : ExactPassesLaw
exact_passes cores edges entry log acyclic last none exact = end-each (is_exact_at cores edges entry) edges one
  where
    clock : (x : Instr) → IsEnd edges x → IsClock (Among edges) x (with_own x (most_before edges entry x))
    clock x end =
        next_clock edges entry x (most_before edges entry x) log acyclic last (end_counts edges x log end)
        (λ w e same lt. exact w e)
        (λ z is. exact z (end_source edges z x is)) (λ i n ne some. most-below edges entry x i n some)

    place : (x : Instr) → IsEnd edges x → (i : ℕ) → nat_eq i x.core ≡ false →
        nat_eq (entry x i) (most_before edges entry x i) ≡ true
    place x end i f =
        let ne : i ≢ x.core = grind (arith, nat_tests) in
        let same : entry x i ≡ most_before edges entry x i =
        one_clock_law edges x (entry x) (with_own x (most_before edges entry x)) (exact x end) (clock x end) i
        ∙ own_other x (most_before edges entry x) i ne in
        grind (arith, nat_tests)

    one : (x : Instr) → IsEnd edges x → is_exact_at cores edges entry x ≡ true
    one x end =
        let own : nat_eq (entry x x.core) x.count ≡ true =
        let e = (exact_is_good edges entry log acyclic last exact x end).own in grind (arith, nat_tests) in
        true-both (nat_eq (entry x x.core) x.count) (each_place (place_test edges entry x) cores) own
        (places-all (place_test edges entry x) cores
        (λ i lt. true-else (nat_eq i x.core) (nat_eq (entry x i) (most_before edges entry x i)) (place x end i)))
