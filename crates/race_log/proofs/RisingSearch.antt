-- What a search finds in a list whose numbers rise, and which items joined lists have.
use Rattle.std.proofs.Common.{◌≡◌, ℕ, zero, suc, ◌<◌, ◌≤◌, List, [], ◌∷◌, length, get_or, Result, Ok, Err, IfOk, IfErr}
use Rattle.std.proofs.Common.{inl, inr, sym, ap, subst, ◌∙◌, arith}
use Rattle.std.specs.Prelude.{map}
use Rattle.std.specs.List.{Contains, flat_map}
use Rattle.std.specs.List.Sorted.{IsSearchInRange, IsBinarySearchResult, IsNonDecreasingBy}
use Rattle.std.specs.Ordering.{nat_cmp, ordering_index}
use Rattle.std.proofs.lemmas.Cmp.{ranked}
use Rattle.std.proofs.lemmas.List.{get_or_default, get_or-map, length-map}
use Rattle.std.proofs.lemmas.List.Elements.{Contains-append_left, Contains-append_right, Contains-append_cases}
use Rattle.std.proofs.lemmas.List.Sorted.{IsNonDecreasingBy-from_default}
use Rattle.std.proofs.lemmas.Bool.Decides.{nat_tests}

-- ---- a search

-- each number is below those after it
abbrev pub Rising : {X : Type 0} → (X → ℕ) → List X → X → Type 0
Rising n l d = (i j : ℕ) → i < j → j < length l → n (get_or l i d) < n (get_or l j d)

pub rising-falls_not : {X : Type 0} (n : X → ℕ) (l : List X) (d : X) → Rising n l d → IsNonDecreasingBy n l
rising-falls_not n l d rising =
    IsNonDecreasingBy-from_default n l d
    (λ i j le below. grind (arith, rising i j, λ (same : i ≡ j). ap (λ (k : ℕ). n (get_or l k d)) same))

-- two places with one number are the same
pub one_place : {X : Type 0} (n : X → ℕ) (l : List X) (d : X) → Rising n l d → (i j : ℕ) → i < length l → j < length l →
    n (get_or l i d) ≡ n (get_or l j d) →
    i ≡ j
one_place n l d rising i j before below same = grind (arith, rising i j, rising j i)

comparisons-rise : {X : Type 0} (n : X → ℕ) (l : List X) (d : X) (k : ℕ) → Rising n l d →
    IsNonDecreasingBy (λ x. ordering_index (nat_cmp (n x) k)) l
comparisons-rise n l d k rising =
    IsNonDecreasingBy-from_default (λ x. ordering_index (nat_cmp (n x) k)) l d (λ i j le below.
    let up : n (get_or l i d) ≤ n (get_or l j d) =
    grind (arith, rising i j, λ (same : i ≡ j). ap (λ (m : ℕ). n (get_or l m d)) same) in
    grind (arith, nat_tests))

-- a search by the number ends at it, or nothing has it
pub searched : {X : Type 0} (n : X → ℕ) (l : List X) (d : X) (k : ℕ) → Rising n l d → (r : Result ℕ ℕ) →
    IsSearchInRange r (length l) →
    IsBinarySearchResult (λ x. nat_cmp (n x) k) l r →
    record {
      found : IfOk r (λ at. (at < length l) × (n (get_or l at d) ≡ k));
      absent : IfErr r (λ at. (j : ℕ) → j < length l → n (get_or l j d) ≡ k → ⊥);
    }
searched n l d k rising (Ok at) in_range equal =
    record { found = (in_range, ranked _ k _ (sym (equal d))); absent = tt }
searched n l d k rising (Err at) in_range parted = record {
  found = tt;
  absent = λ j below same.
      let both = parted (comparisons-rise n l d k rising) in
      let before : j < at → n (get_or l j d) < k = λ lt. ranked _ k _ (sym (both.0 j d (omega arith) lt)) in
      let after : at ≤ j → k < n (get_or l j d) = λ le. ranked _ k _ (sym (both.1 j d le below)) in
      grind (arith, before, after);
}

-- ---- joined lists

pub contains-map : {X Y : Type 0} (f : X → Y) (xs : List X) (x : X) → Contains xs x → Contains (map f xs) (f x)
contains-map f xs x (k, below, is) =
    (k, subst (λ (n : ℕ). k < n) (sym (length-map xs f)) below, get_or-map f xs k x (f x) below ∙ ap f is)

pub map-contains : {X Y : Type 0} (f : X → Y) (xs : List X) (d : X) (y : Y) → Contains (map f xs) y → (x : X) ×
    Contains xs x × (f x ≡ y)
map-contains f xs d y (k, below, is) =
    let short : k < length xs = subst (λ (n : ℕ). k < n) (length-map xs f) below in
    (get_or xs k d, (k, short, get_or_default xs k (get_or xs k d) d short), sym (get_or-map f xs k d y short) ∙ is)

pub flat-contains : {X Y : Type 0} (f : X → List Y) (xs : List X) (k : ℕ) (d : X) (y : Y) → k < length xs →
    Contains (f (get_or xs k d)) y →
    Contains (flat_map f xs) y
flat-contains f [] k d y below has = absurd (omega arith)
flat-contains f (x ∷ xs) zero d y below has = Contains-append_left (f x) (flat_map f xs) y has
flat-contains f (x ∷ xs) (suc k) d y below has =
    Contains-append_right (f x) (flat_map f xs) y (flat-contains f xs k d y (omega arith) has)

pub contains-flat : {X Y : Type 0} (f : X → List Y) (xs : List X) (d : X) (y : Y) → Contains (flat_map f xs) y →
    (k : ℕ) × (k < length xs)
    × Contains (f (get_or xs k d)) y
contains-flat f [] d y (k, below, is) = absurd (omega arith)
contains-flat f (x ∷ xs) d y has = elim (Contains-append_cases (f x) (flat_map f xs) y has) [
  | inl here ↦ (0, omega arith, here)
  | inr there ↦ let later = contains-flat f xs d y there in (suc later.0, omega (arith, later.1), later.2)
]
