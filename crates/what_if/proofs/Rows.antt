-- The words that differ, one more.
use Rattle.std.proofs.Common.{◌≡◌, ℕ, ◌+◌, Bool, true, false, List, [], ◌∷◌, ◌++◌, refl, sym, ap, ◌∙◌, append-nil}
use Rattle.std.proofs.lemmas.List.Elements.{filter-append}
use Rattle.std.specs.List.{range_with_len}
use Rattle.std.specs.Prelude.{filter, nat_eq, not, slice_index, if◌then◌else◌}
use Rattle.rtr_types.proofs.Ranges.{range_more}
use Rattle.what_if.specs.Told.{differing, differs}

module _ (words recorded : List ℕ) (word : ℕ) where
  split : differing (word + 1) words recorded
      ≡ differing word words recorded ++ filter (differs words recorded) (word ∷ [])
  split = ap (λ (l : List ℕ). filter (differs words recorded) l) (range_more word)
      ∙ filter-append (differs words recorded) (range_with_len 0 word) (word ∷ [])

  pub one_differs : (list more : List ℕ) → list ≡ differing word words recorded →
      nat_eq (slice_index words word) (slice_index recorded word) ≡ false → more ≡ list ++ word ∷ [] →
      more ≡ differing (word + 1) words recorded
  one_differs list more so_far other is =
      is ∙ ap (λ (l : List ℕ). l ++ word ∷ []) so_far
      ∙ ap (λ (b : Bool). differing word words recorded ++ (if not b then word ∷ [] else [])) (sym other) ∙ sym split

  pub none_differs : (list : List ℕ) → list ≡ differing word words recorded →
      nat_eq (slice_index words word) (slice_index recorded word) ≡ true → list ≡ differing (word + 1) words recorded
  none_differs list so_far same =
      so_far ∙ sym (append-nil (differing word words recorded))
      ∙ ap (λ (b : Bool). differing word words recorded ++ (if not b then word ∷ [] else [])) (sym same) ∙ sym split
