-- Sums over a list of which one place was set, and over two lists side by side.
use Rattle.std.proofs.Common.{◌≡◌, ◌∙◌, ap, refl, sym, ℕ, ◌+◌, ◌<◌, ◌≤◌, List, [], ◌∷◌, length, get_or, zero, suc}
use Rattle.std.proofs.Common.{arith}
use Rattle.std.specs.Prelude.{slice_set}
use Rattle.std.specs.List.{sum_by, zip}
use Rattle.std.proofs.lemmas.List.{set-get_or}
use Rattle.std.proofs.lemmas.List.Sums.{sum_by-cons}

module _ {X : Type 0} (f : X → ℕ) where
  -- where f rises by at most this at a place, the sum does
  pub sum_most : (xs : List X) (c : ℕ) (x d : X) (k : ℕ) → f x ≤ f (get_or xs c d) + k →
      sum_by f (slice_set xs c x) ≤ sum_by f xs + k
  sum_most [] c x d k le = omega arith
  sum_most (a ∷ xs) zero x d k le = rw (sum_by-cons f x xs, sum_by-cons f a xs) (omega arith)
  sum_most (a ∷ xs) (suc c) x d k le =
      let ih = sum_most xs c x d k le in
      rw (sum_by-cons f a (slice_set xs c x), sum_by-cons f a xs) (omega arith)

  -- where f stays as it was at a place, the sum does
  pub sum_kept : (xs : List X) (c : ℕ) (x d : X) → f x ≡ f (get_or xs c d) → sum_by f (slice_set xs c x) ≡ sum_by f xs
  sum_kept [] c x d same = refl
  sum_kept (a ∷ xs) zero x d same = rw (sum_by-cons f x xs, sum_by-cons f a xs, same) refl
  sum_kept (a ∷ xs) (suc c) x d same = rw (
    sum_by-cons f a (slice_set xs c x),
    sum_by-cons f a xs,
    sum_kept xs c x d same,
  ) refl

module _ {X Y : Type 0} (f : X × Y → ℕ) where
  -- where the same place of two lists is set, the sum over both changes by that place
  pub sum_set : (xs : List X) (ys : List Y) (c : ℕ) (x d : X) (y e : Y) → c < length xs → length ys ≡ length xs →
      sum_by f (zip (slice_set xs c x) (slice_set ys c y)) + f (get_or xs c d, get_or ys c e) ≡ sum_by f (zip xs ys) + f
      (x, y)
  sum_set [] ys c x d y e lt long = absurd (omega arith)
  sum_set (a ∷ xs) [] c x d y e lt long = absurd (omega arith)
  sum_set (a ∷ xs) (b ∷ ys) zero x d y e lt long =
      rw (sum_by-cons f (x, y) (zip xs ys), sum_by-cons f (a, b) (zip xs ys)) (omega arith)
  sum_set (a ∷ xs) (b ∷ ys) (suc c) x d y e lt long =
      let ih = sum_set xs ys c x d y e (omega arith) (omega arith) in
      rw (sum_by-cons f (a, b) (zip (slice_set xs c x) (slice_set ys c y)), sum_by-cons f (a, b) (zip xs ys))
      (omega arith)

  pub sum_set_second : (xs : List X) (ys : List Y) (c : ℕ) (d : X) (y e : Y) → c < length xs → length ys ≡ length xs →
      sum_by f (zip xs (slice_set ys c y)) + f (get_or xs c d, get_or ys c e) ≡ sum_by f (zip xs ys) + f (
        get_or xs c d,
        y,
      )
  sum_set_second xs ys c d y e lt long =
      ap (λ (zs : List X). sum_by f (zip zs (slice_set ys c y)) + f (get_or xs c d, get_or ys c e))
      (sym (set-get_or xs c d))
      ∙ sum_set xs ys c (get_or xs c d) d y e lt long

  -- an element of the second list that f takes for the one that it replaces leaves the sum
  pub sum_same : (xs : List X) (ys : List Y) (c : ℕ) (y e : Y) → ((x : X) → f (x, y) ≡ f (x, get_or ys c e)) →
      sum_by f (zip xs (slice_set ys c y)) ≡ sum_by f (zip xs ys)
  sum_same [] ys c y e same = refl
  sum_same (a ∷ xs) [] c y e same = refl
  sum_same (a ∷ xs) (b ∷ ys) zero y e same = rw (
    sum_by-cons f (a, y) (zip xs ys),
    sum_by-cons f (a, b) (zip xs ys),
    same a,
  ) refl
  sum_same (a ∷ xs) (b ∷ ys) (suc c) y e same =
      rw (sum_by-cons f (a, b) (zip xs (slice_set ys c y)), sum_by-cons f (a, b) (zip xs ys), sum_same xs ys c y e same)
      refl

  pub sum_at_most : (g : X → ℕ) (xs : List X) (ys : List Y) (d : X) (e : Y) → length ys ≡ length xs →
      ((c : ℕ) → c < length xs → f (get_or xs c d, get_or ys c e) ≤ g (get_or xs c d)) →
      sum_by f (zip xs ys) ≤ sum_by g xs
  sum_at_most g [] ys d e long le = omega arith
  sum_at_most g (a ∷ xs) [] d e long le = absurd (omega arith)
  sum_at_most g (a ∷ xs) (b ∷ ys) d e long le =
      let first : f (a, b) ≤ g a = le 0 (omega arith) in
      let rest = sum_at_most g xs ys d e (omega arith) (λ c lt. le (suc c) (omega arith)) in
      rw (sum_by-cons f (a, b) (zip xs ys), sum_by-cons g a xs) (omega arith)
