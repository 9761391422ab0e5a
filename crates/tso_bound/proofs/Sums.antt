-- Sums over lists that agree, or agree but at one place.
use Rattle.std.proofs.Common.{◌≡◌, ◌≢◌, refl, ℕ, ◌+◌, ◌*◌, ◌<◌, ◌≤◌, List, [], ◌∷◌, length, get_or, zero, suc, arith}
use Rattle.std.specs.List.{sum_by}
use Rattle.std.proofs.lemmas.List.Sums.{sum_by-cons}

one_more : (k n : ℕ) → k * suc n ≡ k + k * n
one_more k n = grind arith

module _ {X : Type 0} where
  -- two functions that agree at each place
  pub sums_agree : (f g : X → ℕ) (xs : List X) (d : X) → ((i : ℕ) → f (get_or xs i d) ≡ g (get_or xs i d)) →
      sum_by f xs ≡ sum_by g xs
  sums_agree f g [] d same = refl
  sums_agree f g (x ∷ xs) d same =
      let first : f x ≡ g x = same zero in
      let rest : sum_by f xs ≡ sum_by g xs = sums_agree f g xs d (λ i. same (suc i)) in
      let a = sum_by-cons f x xs in
      let b = sum_by-cons g x xs in
      omega arith

  -- and at each but one
  pub sums_agree_but : (f g : X → ℕ) (xs : List X) (j : ℕ) (d : X) → j < length xs →
      ((i : ℕ) → i ≢ j → f (get_or xs i d) ≡ g (get_or xs i d)) →
      sum_by g xs + f (get_or xs j d) ≡ sum_by f xs + g (get_or xs j d)
  sums_agree_but f g [] j d lt same = absurd (omega arith)
  sums_agree_but f g (x ∷ xs) zero d lt same =
      let rest : sum_by f xs ≡ sum_by g xs =
      sums_agree f g xs d (λ i. same (suc i) (λ (e : suc i ≡ zero). absurd (omega arith))) in
      let a = sum_by-cons f x xs in
      let b = sum_by-cons g x xs in
      omega arith
  sums_agree_but f g (x ∷ xs) (suc j) d lt same =
      let first : f x ≡ g x = same zero (λ (e : zero ≡ suc j). absurd (omega arith)) in
      let rest : sum_by g xs + f (get_or xs j d) ≡ sum_by f xs + g (get_or xs j d) =
      sums_agree_but f g xs j d (omega arith) (λ i other. same (suc i) (λ (e : suc i ≡ suc j). other (omega arith))) in
      let a = sum_by-cons f x xs in
      let b = sum_by-cons g x xs in
      omega arith

  -- two lists
  pub sums_same : (f : X → ℕ) (xs ys : List X) (d : X) → length ys ≡ length xs →
      ((i : ℕ) → f (get_or ys i d) ≡ f (get_or xs i d)) →
      sum_by f ys ≡ sum_by f xs
  sums_same f [] [] d long same = refl
  sums_same f [] (y ∷ ys) d long same = absurd (omega arith)
  sums_same f (x ∷ xs) [] d long same = absurd (omega arith)
  sums_same f (x ∷ xs) (y ∷ ys) d long same =
      let first : f y ≡ f x = same zero in
      let rest : sum_by f ys ≡ sum_by f xs = sums_same f xs ys d (omega arith) (λ i. same (suc i)) in
      let a = sum_by-cons f x xs in
      let b = sum_by-cons f y ys in
      omega arith

  -- at most this at each place, and at one place that much more
  pub sum_at_most : (f : X → ℕ) (k : ℕ) (xs : List X) (d : X) → ((i : ℕ) → f (get_or xs i d) ≤ k) →
      sum_by f xs ≤ k * length xs
  sum_at_most f k [] d le = omega arith
  sum_at_most f k (x ∷ xs) d le =
      let first : f x ≤ k = le zero in
      let rest : sum_by f xs ≤ k * length xs = sum_at_most f k xs d (λ i. le (suc i)) in
      let a = sum_by-cons f x xs in
      let b : k * length (x ∷ xs) ≡ k + k * length xs = one_more k (length xs) in
      omega arith

  pub sum_at_most_but : (f : X → ℕ) (k more : ℕ) (xs : List X) (j : ℕ) (d : X) →
      ((i : ℕ) → i ≢ j → f (get_or xs i d) ≤ k) →
      f (get_or xs j d) ≤ k + more → sum_by f xs ≤ k * length xs + more
  sum_at_most_but f k more [] j d le here = omega arith
  sum_at_most_but f k more (x ∷ xs) zero d le here =
      let first : f x ≤ k + more = here in
      let rest : sum_by f xs ≤ k * length xs =
      sum_at_most f k xs d (λ i. le (suc i) (λ (e : suc i ≡ zero). absurd (omega arith))) in
      let a = sum_by-cons f x xs in
      let b : k * length (x ∷ xs) ≡ k + k * length xs = one_more k (length xs) in
      omega arith
  sum_at_most_but f k more (x ∷ xs) (suc j) d le here =
      let first : f x ≤ k = le zero (λ (e : zero ≡ suc j). absurd (omega arith)) in
      let rest : sum_by f xs ≤ k * length xs + more =
      sum_at_most_but f k more xs j d (λ i other. le (suc i) (λ (e : suc i ≡ suc j). other (omega arith))) here in
      let a = sum_by-cons f x xs in
      let b : k * length (x ∷ xs) ≡ k + k * length xs = one_more k (length xs) in
      omega arith

  pub sum_both : (f g : X → ℕ) (xs : List X) → sum_by (λ x. f x + g x) xs ≡ sum_by f xs + sum_by g xs
  sum_both f g [] = refl
  sum_both f g (x ∷ xs) =
      let rest = sum_both f g xs in
      let a = sum_by-cons f x xs in
      let b = sum_by-cons g x xs in
      let c = sum_by-cons (λ (y : X). f y + g y) x xs in
      omega arith

module _ {X Y : Type 0} where
  -- two lists side by side
  pub sums_beside : (f : X → ℕ) (g : Y → ℕ) (h : X → ℕ) (xs : List X) (ys : List Y) (d : X) (e : Y) →
      length ys ≡ length xs →
      ((i : ℕ) → i < length xs → f (get_or xs i d) + g (get_or ys i e) ≤ h (get_or xs i d)) →
      sum_by f xs + sum_by g ys ≤ sum_by h xs
  sums_beside f g h [] [] d e long le = omega arith
  sums_beside f g h [] (y ∷ ys) d e long le = absurd (omega arith)
  sums_beside f g h (x ∷ xs) [] d e long le = absurd (omega arith)
  sums_beside f g h (x ∷ xs) (y ∷ ys) d e long le =
      let first : f x + g y ≤ h x = le zero (omega arith) in
      let rest : sum_by f xs + sum_by g ys ≤ sum_by h xs = sums_beside f g h xs ys d e (omega arith)
      (λ i lt. le (suc i) (omega arith)) in
      let a = sum_by-cons f x xs in
      let b = sum_by-cons g y ys in
      let c = sum_by-cons h x xs in
      omega arith
