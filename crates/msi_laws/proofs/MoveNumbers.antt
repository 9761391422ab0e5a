-- A machine's moves by their numbers: which of its candidates pass a test, and what a choice takes of some moves.
use Rattle.std.proofs.Common.{◌≡◌, ◌∙◌, refl, subst, ℕ, ◌<◌, ◌%◌, Bool, true, false, cond, nat_lt, ◌&&◌, List, [], ◌∷◌}
use Rattle.std.proofs.Common.{length, map, get_or, Some, zero, suc, arith, zero-add}
use Rattle.std.specs.Prelude.{if◌then◌else◌, slice_index_or}
use Rattle.std.specs.List.{filter, list_all, range_with_len}
use Rattle.std.proofs.lemmas.Bool.Decides.{nat_tests}
use Rattle.std.proofs.lemmas.List.FromFn.{length-map-range_with_len, get_or-map-range_with_len}
use Rattle.std.proofs.lemmas.Nat.{mod_below}
use Rattle.msi_laws.specs.Walks.{MoveTaken, taking, walked}

filter_some : {X : Type 0} (test : X → Bool) (xs : List X) (k : ℕ) (d : X) → k < length xs →
    test (get_or xs k d) ≡ true → 0 < length (filter test xs)
filter_some test [] k d within is = absurd (omega arith)
filter_some test (x ∷ xs) zero d within is = rw is (omega arith)
filter_some test (x ∷ xs) (suc k) d within is = by_test (test x) (filter_some test xs k d (omega arith) is)
  where
    by_test : (t : Bool) → 0 < length (filter test xs) → 0 < length (cond t (x ∷ filter test xs) (filter test xs))
    by_test true lt = omega arith
    by_test false lt = lt

-- some of the candidates pass a test that the one numbered k passes
pub among_some : {M : Type 0} (test : M → Bool) (candidate : ℕ → M) (n k : ℕ) (m : M) → k < n → candidate k ≡ m →
    test m ≡ true → 0 < length (filter test (map candidate (range_with_len 0 n)))
among_some test candidate n k m within is passes =
    let at : get_or (map candidate (range_with_len 0 n)) k m ≡ m =
    get_or-map-range_with_len candidate 0 n k k m within (zero-add k) ∙ is in
    filter_some test (map candidate (range_with_len 0 n)) k m
    (rw (length-map-range_with_len candidate 0 n) within) (rw at passes)

pub filter_none : {X : Type 0} (test : X → Bool) (xs : List X) → ((x : X) → test x ≡ false) → filter test xs ≡ []
filter_none test [] none = refl
filter_none test (x ∷ xs) none = rw (none x) (filter_none test xs none)

pub not_enabled : (c n : ℕ) (t : Bool) → (c < n → t ≡ false) → (nat_lt c n && t) ≡ false
not_enabled c n false none = grind (arith, nat_tests)
not_enabled c n true none = grind (arith, nat_tests)

-- of some that don't all pass a test, one doesn't
pub not_all : {X : Type 0} (test : X → Bool) (xs : List X) (d : X) → list_all test xs ≡ false →
    (i : ℕ) × (i < length xs) × (test (get_or xs i d) ≡ false)
not_all test [] d e = absurd (cc)
not_all test (x ∷ xs) d e = by_test (test x) refl e (λ (f : list_all test xs ≡ false). not_all test xs d f)
  where
    by_test : (t : Bool) → test x ≡ t → (t && list_all test xs) ≡ false →
        (list_all test xs ≡ false → (i : ℕ) × (i < length xs) × (test (get_or xs i d) ≡ false)) →
        (i : ℕ) × (i < length (x ∷ xs))
        × (test (get_or (x ∷ xs) i d) ≡ false)
    by_test true is f rest = let r = rest f in (suc r.0, (let lt = r.1 in omega arith), r.2)
    by_test false is f rest = (0, omega arith, is)

-- what a choice takes of some moves is one of them
pub taken_is : {M : Type 0} (first : M) (later : List M) (P : M → Type 0) (choice : ℕ) (m : M) →
    ((i : ℕ) (d : M) → i < length (first ∷ later) → P (get_or (first ∷ later) i d)) →
    Some (slice_index_or (first ∷ later) (choice % length (first ∷ later)) first) ≡ Some m → P m
taken_is {M = M} first later P choice m each is =
    subst P (some_same _ m is)
    (each (choice % length (first ∷ later)) first (mod_below choice (length (first ∷ later)) (omega arith)))
  where
    some_same : (a b : M) → Some a ≡ Some b → a ≡ b
    some_same a b e = grind arith

-- what each enabled move keeps holds of each state that moves lead to
pub walked_keeps : {S M R : Type 0} (enabled : S → M → Bool) (step : R → S → M → S) (P : S → Type 0) →
    ((s : S) (m : M) (rider : R) → enabled s m ≡ true → P s → P (step rider s m)) → (s : S)
    (taken : List (MoveTaken M R)) → P s → P (walked enabled step s taken)
walked_keeps enabled step P keeps s [] h = h
walked_keeps {S = S} enabled step P keeps s (first ∷ later) h =
    walked_keeps enabled step P keeps (taking enabled step s first) later
    (by_test (enabled s first.move) (step first.rider s first.move) (λ is. keeps s first.move first.rider is h))
  where
    by_test : (t : Bool) (moved : S) → (t ≡ true → P moved) → P (if t then moved else s)
    by_test true moved f = f refl
    by_test false moved f = h
