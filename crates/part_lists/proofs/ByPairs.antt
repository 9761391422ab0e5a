-- What leads between the cores of each pair, pair by pair.
use Rattle.std.proofs.Common.{◌≡◌, ℕ, ◌+◌, ◌<◌, List, [], ◌∷◌, ◌++◌, length, get_or, sym, ap, ◌∙◌, subst}
use Rattle.std.specs.Prelude.{map}
use Rattle.std.specs.List.{flat_map, range_with_len}
use Rattle.std.proofs.lemmas.List.{get_or_default, append-nil}
use Rattle.std.proofs.lemmas.Grind.{flat_map-append}
use Rattle.rtr_types.specs.Pairs.{pair_count, source_at, target_at}
use Rattle.rtr_types.proofs.Ranges.{range_more}
use Rattle.part_lists.specs.Leading.{led_at}

-- what is put at the end for the pair at a place
pub pair_led_is : {T L : Type 0} (between : (from to : ℕ) → T → L) (cores place : ℕ) (pair : ℕ × ℕ)
    (lists : List (List T)) (item entries : List T) (old new : List L) → length lists ≡ pair_count cores →
    place < pair_count cores → pair ≡ (source_at cores place, target_at cores place) →
    item ≡ get_or lists place item → entries ≡ item → new ≡ old ++ map (between pair.0 pair.1) entries →
    new ≡ old ++ led_at between cores lists place
pair_led_is {T} between cores place pair lists item entries old new each lt p i k is =
    is ∙ ap (λ (m : List T). old ++ map (between pair.0 pair.1) m) list
    ∙ ap (λ (a : ℕ × ℕ). old ++ map (between a.0 a.1) (get_or lists place [])) p
  where
    list : entries ≡ get_or lists place []
    list = k ∙ i ∙ get_or_default lists place item [] (subst (λ (n : ℕ). place < n) (sym each) lt)

-- that of one pair more
pub led_more : {L : Type 0} (at : ℕ → List L) (place : ℕ) (old new : List L) →
    old ≡ flat_map at (range_with_len 0 place) → new ≡ old ++ at place →
    new ≡ flat_map at (range_with_len 0 (place + 1))
led_more {L} at place old new old_is new_is =
    new_is ∙ ap (λ (l : List L). l ++ at place) old_is
    ∙ ap (λ (l : List L). flat_map at (range_with_len 0 place) ++ l) (sym (append-nil (at place)))
    ∙ sym (flat_map-append at (range_with_len 0 place) (place ∷ []))
    ∙ ap (λ (l : List ℕ). flat_map at l) (sym (range_more place))

pub led_done : {L : Type 0} (at : ℕ → List L) (place count : ℕ) (list : List L) → place ≡ count →
    list ≡ flat_map at (range_with_len 0 place) → list ≡ flat_map at (range_with_len 0 count)
led_done at place count list e is = is ∙ ap (λ (n : ℕ). flat_map at (range_with_len 0 n)) e
