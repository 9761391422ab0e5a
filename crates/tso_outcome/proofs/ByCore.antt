-- Lists by core, of which one gets an item more.
use Rattle.std.proofs.Common.{◌≡◌, ◌≢◌, refl, sym, ap, ◌∙◌, ℕ, zero, suc, ◌+◌, ◌<◌, ◌≤◌, List, [], ◌∷◌, ◌++◌, arith}
use Rattle.std.specs.Prelude.{map, replicate}
use Rattle.std.specs.List.{range_with_len}
use Rattle.roomy_lists.specs.Lists.{with_item}

module _ {X : Type 0} where
  -- the lists of n cores, from a core on
  abbrev pub by_core : (ℕ → List X) → (from n : ℕ) → List (List X)
  by_core f from n = map f (range_with_len from n)

  pub same_lists : (f g : ℕ → List X) (from n : ℕ) → ((c : ℕ) → from ≤ c → c < from + n → f c ≡ g c) →
      by_core f from n ≡ by_core g from n
  same_lists f g from zero same = refl
  same_lists f g from (suc n) same =
      let head : f from ≡ g from = same from (omega arith) (omega arith) in
      let tail : by_core f (from + 1) n ≡ by_core g (from + 1) n =
      same_lists f g (from + 1) n (λ c le lt. same c (omega (arith, le)) (omega (arith, lt))) in
      rw (head, tail) refl

  -- where each is empty
  pub no_items : (f : ℕ → List X) (from n : ℕ) → ((c : ℕ) → f c ≡ []) → by_core f from n ≡ replicate n []
  no_items f from zero none = refl
  no_items f from (suc n) none =
      let head : f from ≡ [] = none from in
      let tail : by_core f (from + 1) n ≡ replicate n [] = no_items f (from + 1) n none in
      rw (head, tail) refl

  -- the core's list has the item at its end, and the others are as they were
  pub item_more : (f g : ℕ → List X) (x : X) (core from n i : ℕ) → core ≡ from + i → g core ≡ f core ++ x ∷ [] →
      ((c : ℕ) → c ≢ core → f c ≡ g c) → with_item (by_core f from n) i x ≡ by_core g from n
  item_more f g x core from zero i at own others = refl
  item_more f g x core from (suc n) zero at own others =
      let here : core ≡ from = omega (arith, at) in
      let head : f from ++ x ∷ [] ≡ g from = ap (λ (c : ℕ). f c ++ x ∷ []) (sym here) ∙ sym own ∙ ap g here in
      let tail : by_core f (from + 1) n ≡ by_core g (from + 1) n =
      same_lists f g (from + 1) n (λ c le lt. others c (λ is. omega (arith, le, is, here))) in
      rw (head, tail) refl
  item_more f g x core from (suc n) (suc i) at own others =
      let head : f from ≡ g from = others from (λ is. omega (arith, at, is)) in
      let tail : with_item (by_core f (from + 1) n) i x ≡ by_core g (from + 1) n =
      item_more f g x core (from + 1) n i (omega (arith, at)) own others in
      rw head (ap (λ (lists : List (List X)). g from ∷ lists) tail)
