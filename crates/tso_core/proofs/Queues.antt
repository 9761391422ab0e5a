-- The list of pending accesses in its places: how many of them are stores, what a core sees of them, and what is left
-- once the oldest leaves.
use Rattle.std.proofs.Common.{
  ◌≡◌,
  ◌∙◌,
  ap,
  refl,
  sym,
  ℕ,
  zero,
  suc,
  ◌+◌,
  ◌-◌,
  ◌<◌,
  ◌≤◌,
  ◌==◌,
  Bool,
  true,
  false,
  List,
  [],
  ◌∷◌,
  ◌++◌,
  length,
  cond,
  drop,
  take,
  arith,
}
use Rattle.std.specs.Prelude.{if◌then◌else◌, slice_index_or}
use Rattle.std.specs.List.{copy_within, filter}
use Rattle.std.proofs.lemmas.List.{drop-take, length-drop, length-take-le, take_at, take_more}
use Rattle.tso_state.specs.declared.pending.Pending.{Pending}
use Rattle.tso_state.specs.Pending.{forwarded, is_store, left_by, stores_in, word_of}

-- ---- stores

-- one more where it is a store
one_more : (b : Bool) (x : Pending) (xs : List Pending) → length (cond b (x ∷ xs) xs) ≡ length (cond b (x ∷ []) []) +
    length xs
one_more true x xs = omega arith
one_more false x xs = omega arith

pub stores_next : (x : Pending) (xs : List Pending) → stores_in (x ∷ xs) ≡ stores_in (x ∷ []) + stores_in xs
stores_next x xs = one_more (is_store x) x (filter is_store xs)

pub stores_push : (xs : List Pending) (x : Pending) → stores_in (xs ++ x ∷ []) ≡ stores_in xs + stores_in (x ∷ [])
stores_push [] x = omega arith
stores_push (y ∷ xs) x =
    let first = stores_next y (xs ++ x ∷ []) in
    let old = stores_next y xs in
    let rest = stores_push xs x in
    omega (arith, first, old, rest)

one_few_b : (b : Bool) (x : Pending) → length (cond b (x ∷ []) []) ≤ 1
one_few_b true x = omega arith
one_few_b false x = omega arith

pub one_few : (x : Pending) → stores_in (x ∷ []) ≤ 1
one_few x = one_few_b (is_store x) x

pub stores_few : (xs : List Pending) → stores_in xs ≤ length xs
stores_few [] = omega arith
stores_few (x ∷ xs) =
    let first = stores_next x xs in
    let one : stores_in (x ∷ []) ≤ 1 = one_few x in
    let rest = stores_few xs in
    omega (arith, first, one, rest)

-- ---- places

-- all but the first of the places that are used move to the front
pub moved_up : (xs : List Pending) (n : ℕ) → n ≤ length xs → take (n - 1) (copy_within xs 1 n 0) ≡ drop 1 (take n xs)
moved_up xs zero within = refl
moved_up xs (suc n) within =
    let long : length (take n (drop 1 xs)) ≡ n = length-take-le n (drop 1 xs) (omega (arith, length-drop 1 xs)) in
    let less : suc n - 1 ≡ n = omega arith in
    let one : 1 + n ≡ suc n = omega arith in
    ap (λ (k : ℕ). take k (copy_within xs 1 (suc n) 0)) less
    ∙ ap (λ (k : ℕ). take n (take 0 xs ++ take k (drop 1 xs) ++ drop (0 + k) xs)) less
    ∙ take_at (take n (drop 1 xs)) (drop (0 + n) xs) n long
    ∙ sym (drop-take 1 n xs)
    ∙ ap (λ (k : ℕ). drop 1 (take k xs)) one

-- how many stores are left once the oldest leaves
pub stores_left : (xs : List Pending) (n gone : ℕ) (d : Pending) → gone ≡ stores_in (slice_index_or xs 0 d ∷ []) →
    0 < n → n ≤ length xs →
    stores_in (take n xs) ≡ gone + stores_in (take (n - 1) (copy_within xs 1 n 0))
stores_left [] n gone d is some within = absurd (omega arith)
stores_left (x ∷ xs) zero gone d is some within = absurd (omega arith)
stores_left (x ∷ xs) (suc n) gone d is some within =
    stores_next x (take n xs) ∙ (λ i. sym is i + stores_in (sym (moved_up (x ∷ xs) (suc n) within) i))

-- ---- what a core sees

pub seen_push : (xs : List Pending) (x : Pending) (word old : ℕ) → forwarded (xs ++ x ∷ []) word old ≡ forwarded
    (x ∷ []) word (forwarded xs word old)
seen_push [] x word old = refl
seen_push (y ∷ xs) x word old = seen_push xs x word (if word_of y == word then left_by y old else old)

pub seen_more : (xs : List Pending) (n : ℕ) (d : Pending) (word old : ℕ) → n < length xs →
    forwarded (take (n + 1) xs) word old ≡ forwarded (slice_index_or xs n d ∷ []) word (forwarded (take n xs) word old)
seen_more xs n d word old within =
    ap (λ (ys : List Pending). forwarded ys word old) (take_more xs n d within)
    ∙ seen_push (take n xs) (slice_index_or xs n d) word old
