-- The move that a choice numbers, counted around, among those that can be made.
use Rattle.std.proofs.Common.{◌≡◌, ◌∙◌, ap, sym, ℕ, ◌<◌, Bool, true, List, [], ◌∷◌, length, Option, Some, arith}
use Rattle.std.specs.Prelude.{◌%◌, slice_index_or}
use Rattle.std.specs.List.{filter}
use Rattle.std.proofs.lemmas.List.Elements.{filter_passes}
use Rattle.std.proofs.lemmas.Nat.{mod_below}

module _ {M : Type 0} where
  -- it can be made
  pub numbered_passes : (p : M → Bool) (all : List M) (choice : ℕ) (m : M) → 0 < length (filter p all) →
      ((d : M) → m ≡ slice_index_or (filter p all) (choice % length (filter p all)) d) → p m ≡ true
  numbered_passes p all choice m some is =
      ap p (is m)
      ∙ filter_passes p all (choice % length (filter p all)) m (mod_below choice (length (filter p all)) some)

  -- what takes the move of a choice, where there is one, takes it
  pub numbered_chosen : (chosen_of : List M → Option M) (ms : List M) (choice : ℕ) (m : M) →
      ((first : M) (later : List M) → chosen_of (first ∷ later)
      ≡ Some (slice_index_or (first ∷ later) (choice % length (first ∷ later)) first)) →
      0 < length ms → ((d : M) → m ≡ slice_index_or ms (choice % length ms) d) → chosen_of ms ≡ Some m
  numbered_chosen chosen_of [] choice m chosen some is = absurd (omega arith)
  numbered_chosen chosen_of (first ∷ later) choice m chosen some is = chosen first later ∙ ap Some (sym (is first))

  -- what is found by its number among all
  pub numbered : {found ms : List M} (choice count : ℕ) (m : M) → found ≡ ms → count ≡ length found →
      ((d : M) → m ≡ slice_index_or found (choice % count) d) → (d : M) → m ≡ slice_index_or ms (choice % length ms) d
  numbered choice count m all same is d = is d ∙ (λ i. slice_index_or (all i) (choice % (same ∙ ap length all) i) d)
