-- The tests tell which entries are good and which edges are needed.
use Rattle.std.proofs.Common.{inl, inr, ◌≡◌, ◌≢◌, ◌⊎◌, ℕ, zero, suc, ◌<◌, ◌≤◌, List, [], ◌∷◌, Bool, true, false, ◌&&◌}
use Rattle.std.proofs.Common.{◌||◌, not, nat_eq, nat_le, nat_lt}
use Rattle.std.proofs.Common.{refl, ap, subst, ◌∙◌, arith}
use Rattle.std.specs.List.{list_all}
use Rattle.std.proofs.lemmas.Bool.Decides.{nat_tests}
use Rattle.std.proofs.lemmas.Bool.{cases_lt, cases_Bool, and_parts}
use Rattle.rtr_types.specs.declared.instr.Instr.{Instr}
use Rattle.rtr_types.specs.declared.instr.Edge.{Edge}
use Rattle.clock_core.specs.Order.{Among, previous}
use Rattle.clock_core.proofs.Paths.{same_instr}
use Rattle.clock_entries.specs.Ends.{is_same, IsEnd}
use Rattle.clock_entries.specs.Entries.{Entry, IsGoodAt, IsNeeded}
use Rattle.clock_entries.specs.Tests.{each_end, each_place, is_below, is_below_but, are_sources_below, is_good_at}
use Rattle.clock_entries.specs.Tests.{is_unknown_by_others, is_needed}
use Rattle.clock_entries.specs.Tests.{HasPlaces, GoodTest, NeededTest}
use Rattle.clock_entries.proofs.LastEntries.{same_is, end_edge, end_source, end_target}

-- ---- tests of lists

pub true-both : (a b : Bool) → a ≡ true → b ≡ true → a && b ≡ true
true-both true b g h = h
true-both false b g h = absurd cc

-- a test that matters where another holds
where-true : (a b : Bool) → not a || b ≡ true → a ≡ true → b ≡ true
where-true true b h g = h
where-true false b h g = absurd cc

true-where : (a b : Bool) → (a ≡ true → b ≡ true) → not a || b ≡ true
true-where true b h = h refl
true-where false b h = refl

-- a test that matters where another doesn't hold
pub else-true : (a b : Bool) → a || b ≡ true → a ≡ false → b ≡ true
else-true true b h g = absurd cc
else-true false b h g = h

pub true-else : (a b : Bool) → (a ≡ false → b ≡ true) → a || b ≡ true
true-else true b h = refl
true-else false b h = h refl

abbrev edge : Instr → Instr → Edge
edge x y = record { from = x; to = y }

all-edges : (test : Edge → Bool) (edges : List Edge) → list_all test edges ≡ true → (x y : Instr) → Among edges x y →
    test (edge x y) ≡ true
all-edges test [] h x y a = absurd a
all-edges test (e ∷ edges) h x y (inl is) =
    let same : e ≡ edge x y = ap (λ (z : Instr). edge z e.to) is.0 ∙ ap (λ (z : Instr). edge x z) is.1 in
    subst (λ (d : Edge). test d ≡ true) same (and_parts (test e) (list_all test edges) h).0
all-edges test (e ∷ edges) h x y (inr a) = all-edges test edges (and_parts (test e) (list_all test edges) h).1 x y a

edges-all : (test : Edge → Bool) (edges : List Edge) → ((x y : Instr) → Among edges x y → test (edge x y) ≡ true) →
    list_all test edges ≡ true
edges-all test [] h = refl
edges-all test (e ∷ edges) h =
    true-both (test e) (list_all test edges) (h e.from e.to (inl (refl, refl)))
    (edges-all test edges (λ x y a. h x y (inr a)))

-- a test of each end
pub each-end : (test : Instr → Bool) (edges : List Edge) → each_end test edges ≡ true → (x : Instr) → IsEnd edges x →
    test x ≡ true
each-end test edges h x end = by (end_edge edges x end)
  where
    ends : (y z : Instr) → Among edges y z → (test y ≡ true) × (test z ≡ true)
    ends y z is = and_parts (test y) (test z) (all-edges (λ e. test e.from && test e.to) edges h y z is)

    by : (y : Instr) × (Among edges x y ⊎ Among edges y x) → test x ≡ true
    by (y, inl is) = (ends x y is).0
    by (y, inr is) = (ends y x is).1

pub end-each : (test : Instr → Bool) (edges : List Edge) → ((x : Instr) → IsEnd edges x → test x ≡ true) →
    each_end test edges ≡ true
end-each test edges h = edges-all (λ e. test e.from && test e.to) edges
    (λ x y is. true-both (test x) (test y) (h x (end_source edges x y is)) (h y (end_target edges x y is)))

pub all-places : (test : ℕ → Bool) (n : ℕ) → each_place test n ≡ true → (i : ℕ) → i < n → test i ≡ true
all-places test zero h i lt = absurd (omega arith)
all-places test (suc n) h i lt =
    let both = and_parts (test n) (each_place test n) h in
    by both.0 (λ less. all-places test n both.1 i less) (cases_lt i n)
  where
    by : test n ≡ true → (i < n → test i ≡ true) → (i < n) ⊎ (n ≤ i) → test i ≡ true
    by t before (inl less) = before less
    by t before (inr past) = let same : n ≡ i = omega arith in subst (λ (k : ℕ). test k ≡ true) same t

pub places-all : (test : ℕ → Bool) (n : ℕ) → ((i : ℕ) → i < n → test i ≡ true) → each_place test n ≡ true
places-all test zero h = refl
places-all test (suc n) h =
    true-both (test n) (each_place test n) (h n (omega arith)) (places-all test n (λ i lt. h i (omega arith)))

-- ---- places

below-true : (cores : ℕ) (there here : ℕ → ℕ) → ((i : ℕ) → cores ≤ i → there i ≡ 0) → is_below cores there here ≡ true →
    (i : ℕ) → there i ≤ here i
below-true cores there here none h i = by (cases_lt i cores)
  where
    by : (i < cores) ⊎ (cores ≤ i) → there i ≤ here i
    by (inl lt) = let t = all-places (λ k. nat_le (there k) (here k)) cores h i lt in grind (arith, nat_tests)
    by (inr past) = let z = none i past in omega arith

true-below : (cores : ℕ) (there here : ℕ → ℕ) → ((i : ℕ) → there i ≤ here i) → is_below cores there here ≡ true
true-below cores there here h =
    places-all (λ k. nat_le (there k) (here k)) cores (λ i lt. let le = h i in grind (arith, nat_tests))

but-true : (cores core : ℕ) (there here : ℕ → ℕ) → ((i : ℕ) → cores ≤ i → there i ≡ 0) →
    is_below_but cores core there here ≡ true → (i : ℕ) → i ≢ core →
    there i ≤ here i
but-true cores core there here none h i other = by (cases_lt i cores)
  where
    by : (i < cores) ⊎ (cores ≤ i) → there i ≤ here i
    by (inl lt) =
        let t = all-places (λ k. nat_eq k core || nat_le (there k) (here k)) cores h i lt in
        let apart : nat_eq i core ≡ false = grind (arith, nat_tests) in
        let le = else-true (nat_eq i core) (nat_le (there i) (here i)) t apart in
        grind (arith, nat_tests)
    by (inr past) = let z = none i past in omega arith

true-but : (cores core : ℕ) (there here : ℕ → ℕ) → ((i : ℕ) → i ≢ core → there i ≤ here i) →
    is_below_but cores core there here ≡ true
true-but cores core there here h =
    places-all (λ k. nat_eq k core || nat_le (there k) (here k)) cores
    (λ i lt. true-else (nat_eq i core) (nat_le (there i) (here i)) (at i))
  where
    at : (i : ℕ) → nat_eq i core ≡ false → nat_le (there i) (here i) ≡ true
    at i f = let other : i ≢ core = grind (arith, nat_tests) in let le = h i other in grind (arith, nat_tests)

-- ---- good

abbrev source_test : ℕ → Entry → Instr → Edge → Bool
source_test cores entry x e = not (is_same e.to x) || is_below cores (entry e.from) (entry x)

good-true : (cores : ℕ) (edges : List Edge) (entry : Entry) (x : Instr) → HasPlaces cores entry →
    is_good_at cores edges entry x ≡ true → IsGoodAt edges entry x
good-true cores edges entry x none h =
    let a =
    and_parts (nat_eq (entry x x.core) x.count)
    (is_below_but cores x.core (entry (previous x)) (entry x) && are_sources_below cores edges entry x) h in
    let b =
    and_parts (is_below_but cores x.core (entry (previous x)) (entry x)) (are_sources_below cores edges entry x) a.1 in
    record {
      own = let t = a.0 in grind (arith, nat_tests);
      rises = but-true cores x.core (entry (previous x)) (entry x) (none (previous x)) b.0;
      sources = λ z is. below-true cores (entry z) (entry x) (none z)
          (where-true (is_same x x) (is_below cores (entry z) (entry x))
          (all-edges (source_test cores entry x) edges b.1 z x is) (same_is x x refl));
    }

true-good : (cores : ℕ) (edges : List Edge) (entry : Entry) (x : Instr) → IsGoodAt edges entry x →
    is_good_at cores edges entry x ≡ true
true-good cores edges entry x g =
    let own : nat_eq (entry x x.core) x.count ≡ true = let is = g.own in grind (arith, nat_tests) in
    true-both (nat_eq (entry x x.core) x.count)
    (is_below_but cores x.core (entry (previous x)) (entry x) && are_sources_below cores edges entry x) own
    (true-both (is_below_but cores x.core (entry (previous x)) (entry x)) (are_sources_below cores edges entry x)
    (true-but cores x.core (entry (previous x)) (entry x) g.rises)
    (edges-all (source_test cores entry x) edges
    (λ z y is. true-where (is_same y x) (is_below cores (entry z) (entry x))
    (λ t. true-below cores (entry z) (entry x)
    (g.sources z (subst (λ (w : Instr). Among edges z w) (same_instr y x t) is))))))

pub good_test : GoodTest
good_test cores edges entry none = (
  λ h x end. good-true cores edges entry x none (each-end (is_good_at cores edges entry) edges h x end),
  λ g. end-each (is_good_at cores edges entry) edges (λ x end. true-good cores edges entry x (g x end)),
)

-- ---- needed

abbrev other_test : Entry → Instr → Instr → Edge → Bool
other_test entry x y e = not (is_same e.to y) || (is_same e.from x || nat_lt (entry e.from x.core) x.count)

needed-true : (edges : List Edge) (entry : Entry) (x y : Instr) → is_needed edges entry x y ≡ true →
    IsNeeded edges entry x y
needed-true edges entry x y h =
    let a = and_parts (nat_lt (entry (previous y) x.core) x.count) (is_unknown_by_others edges entry x y) h in
    record { before = let t = a.0 in grind (arith, nat_tests); others = λ z is other. at z is other a.1 }
  where
    at : (z : Instr) → Among edges z y → z ≢ x → is_unknown_by_others edges entry x y ≡ true → entry z x.core < x.count
    at z is other all =
        let t = all-edges (other_test entry x y) edges all z y is in
        let u = where-true (is_same y y) (is_same z x || nat_lt (entry z x.core) x.count) t (same_is y y refl) in
        let w = else-true (is_same z x) (nat_lt (entry z x.core) x.count) u (apart (cases_Bool (is_same z x))) in
        grind (arith, nat_tests)
      where
        apart : (is_same z x ≡ true) ⊎ (is_same z x ≡ false) → is_same z x ≡ false
        apart (inl t) = absurd (other (same_instr z x t))
        apart (inr f) = f

true-needed : (edges : List Edge) (entry : Entry) (x y : Instr) → IsNeeded edges entry x y →
    is_needed edges entry x y ≡ true
true-needed edges entry x y n =
    let before : nat_lt (entry (previous y) x.core) x.count ≡ true = let lt = n.before in grind (arith, nat_tests) in
    true-both (nat_lt (entry (previous y) x.core) x.count) (is_unknown_by_others edges entry x y) before
    (edges-all (other_test entry x y) edges
    (λ z w is. true-where (is_same w y) (is_same z x || nat_lt (entry z x.core) x.count)
    (λ t. true-else (is_same z x) (nat_lt (entry z x.core) x.count)
    (at z (subst (λ (v : Instr). Among edges z v) (same_instr w y t) is)))))
  where
    at : (z : Instr) → Among edges z y → is_same z x ≡ false → nat_lt (entry z x.core) x.count ≡ true
    at z is f = let lt = n.others z is (λ e. absurd (let t = same_is z x e in cc)) in grind (arith, nat_tests)

pub needed_test : NeededTest
needed_test edges entry x y = (needed-true edges entry x y, true-needed edges entry x y)
