-- As the places of all entries are forgotten, none is noted any more.
use Rattle.std.proofs.Common.{◌≡◌, ◌≢◌, ◌∙◌, ◌⊎◌, inl, inr, refl, sym, ap, ℕ, zero, suc, ◌+◌, ◌<◌, ◌≤◌, List, [], ◌∷◌}
use Rattle.std.proofs.Common.{length, arith, get_or, Some, None}
use Rattle.std.specs.Prelude.{replicate, slice_set}
use Rattle.std.proofs.lemmas.Bool.{cases_eq, cases_lt}
use Rattle.std.proofs.lemmas.List.{get_or-set_other, get_or-set_same, get_or_past, length-set}
use Rattle.flat_state.specs.declared.block.HomeBlock.{HomeBlock}
use Rattle.flat_state.specs.Shows.{home_at}
use Rattle.flat_machine.specs.Machines.{PlacesKept, noted, place_in}

-- the places of the first so many entries are forgotten
pub record Forgotten (home : List HomeBlock) (before slots : List ℕ) (many : ℕ) : Type 0 where
  pub long : length slots ≡ length before
  pub left : (b i : ℕ) → place_in slots b ≡ Some i
      → (many ≤ i) × (i < length home) × ((home_at home i).block ≡ b)

none_forgotten : (home : List HomeBlock) (slots : List ℕ) → PlacesKept home slots → Forgotten home slots slots 0
none_forgotten home slots kept =
    record { long = refl; left = λ b i is. (omega arith, kept.there b i is, kept.block b i is) }

-- a block of which a place is noted is one of the memory's
pub slot_lies : (slots : List ℕ) (b i : ℕ) → place_in slots b ≡ Some i → b < length slots
slot_lies slots b i is = by (cases_lt b (length slots))
  where
    by : (b < length slots) ⊎ (length slots ≤ b) → b < length slots
    by (inl within) = within
    by (inr past) =
        let none : place_in slots b ≡ None = ap noted (get_or_past slots b 0 past) in
        let wrong = sym is ∙ none in absurd (cc)

pub one_forgotten : (home : List HomeBlock) (before slots : List ℕ) (many : ℕ) →
    (home_at home many).block < length slots → Forgotten home before slots many →
    Forgotten home before (slice_set slots (home_at home many).block 0) (many + 1)
one_forgotten home before slots many lies so =
    record { long = length-set slots _ 0 ∙ so.long; left = λ b i is. by b i is (cases_eq b (home_at home many).block) }
  where
    by : (b i : ℕ) → place_in (slice_set slots (home_at home many).block 0) b ≡ Some i →
        (b ≡ (home_at home many).block) ⊎ (b ≢ (home_at home many).block) →
        (many + 1 ≤ i) × (i < length home) × ((home_at home i).block ≡ b)
    by b i is (inl same) =
        let none : place_in (slice_set slots (home_at home many).block 0) b ≡ None =
        ap (place_in (slice_set slots (home_at home many).block 0)) same
        ∙ ap noted (get_or-set_same slots (home_at home many).block 0 0 lies) in
        let wrong = sym is ∙ none in absurd (cc)
    by b i is (inr apart) =
        let old = so.left b i
        (sym (ap noted (get_or-set_other slots (home_at home many).block b 0 0 apart)) ∙ is) in
        (past i old.0 (λ e. apart (sym old.2 ∙ ap (λ (k : ℕ). (home_at home k).block) e)), old.1, old.2)
      where
        past : (i : ℕ) → many ≤ i → i ≢ many → many + 1 ≤ i
        past i most other = at (cases_lt many i)
          where
            at : (many < i) ⊎ (i ≤ many) → many + 1 ≤ i
            at (inl more) = omega (arith, more)
            at (inr few) = absurd (other (omega (arith, most, few)))

-- once all are
pub all_forgotten : (home : List HomeBlock) (before slots : List ℕ) (many : ℕ) → length home ≤ many →
    Forgotten home before slots many → slots ≡ replicate (length before) 0
all_forgotten home before slots many all so =
    zeros slots none ∙ ap (λ (n : ℕ). replicate n 0) so.long
  where
    empty : (b x : ℕ) → get_or slots b 0 ≡ x → get_or slots b 0 ≡ 0
    empty b zero is = is
    empty b (suc i) is =
        let left = so.left b i (ap noted is) in
        let past = left.0 in
        let within = left.1 in
        absurd (omega (arith, all, past, within))

    none : (b : ℕ) → get_or slots b 0 ≡ 0
    none b = empty b (get_or slots b 0) refl

    zeros : (xs : List ℕ) → ((b : ℕ) → get_or xs b 0 ≡ 0) → xs ≡ replicate (length xs) 0
    zeros [] are = refl
    zeros (x ∷ xs) are = λ i. are 0 i ∷ zeros xs (λ b. are (suc b)) i
