-- One list is changed, or gets room.
use Rattle.std.proofs.Common.{◌≡◌, ◌≢◌, ℕ, ◌+◌, ◌<◌, ◌≤◌, Bool, true, false, ◌&&◌, List, [], ◌∷◌, ◌++◌, length, take}
use Rattle.std.proofs.Common.{get_or, inl, inr, refl, sym, ap, subst, ◌∙◌, arith, zero}
use Rattle.std.proofs.Common.{suc, IsTrue}
use Rattle.std.specs.Prelude.{map, slice_set}
use Rattle.std.proofs.lemmas.List.{get_or-map, get_or-set_other, length-set, map-set, take_all, take_more_set}
use Rattle.std.proofs.lemmas.List.Folds.{list_all-append}
use Rattle.std.proofs.Math.Seq.{map-set_same}
use Rattle.std.proofs.lemmas.Bool.{and_from, cases_eq}
use Rattle.roomy_lists.specs.Lists.{Listed, OthersReady, are_ready, is_ready_at, items_at, items_in, with_item}
use Rattle.rtr_types.proofs.Truths.{is_true, true_is, both_true, first_true, second_true}

-- nothing is known
pub unknown : (b : Bool) → IsTrue false → IsTrue b
unknown b none = cc

module _ {T : Type 0} where
  abbrev pub items_of : Listed T → List T
  items_of l = l.items

  abbrev pub ready_of : Listed T → Bool
  ready_of l = l.ready

  -- the list that was found at this place is the one there
  pub found : (all : List (Listed T)) (i : ℕ) (old : Listed T) → i < length all → old ≡ get_or all i old →
      old.items ≡ items_at all i
  found all i old within is = ap items_of is ∙ sym (get_or-map items_of all i old [] within)

  pub found_ready : (all : List (Listed T)) (i : ℕ) (old : Listed T) → i < length all → old ≡ get_or all i old →
      old.ready ≡ is_ready_at all i
  found_ready all i old within is = ap ready_of is ∙ sym (get_or-map ready_of all i old false within)

  -- one list's items change
  pub changed : (all : List (Listed T)) (i : ℕ) (new : Listed T) (list : List T) → new.items ≡ list →
      items_in (slice_set all i new)
      ≡ slice_set (items_in all) i list
  changed all i new list is = map-set items_of all i new ∙ ap (λ (xs : List T). slice_set (items_in all) i xs) is

  -- the list that was found at this place has one more item at its end
  pub pushed : (all : List (Listed T)) (i : ℕ) (old new : Listed T) (item : T) → i < length all →
      old ≡ get_or all i old → new.items ≡ old.items ++ item ∷ [] →
      items_in (slice_set all i new) ≡ with_item (items_in all) i item
  pushed all i old new item within is more = changed all i new (items_at all i ++ item ∷ [])
      (more ∙ ap (λ (xs : List T). xs ++ item ∷ []) (found all i old within is))

  -- the others' rooms stay
  pub ready_elsewhere : (all : List (Listed T)) (i k : ℕ) (new : Listed T) → k ≢ i →
      is_ready_at (slice_set all i new) k ≡ is_ready_at all k
  ready_elsewhere all i k new other = ap (λ (bs : List Bool). get_or bs k false) (map-set ready_of all i new)
      ∙ get_or-set_other (map ready_of all) i k (ready_of new) false other

  -- a list whose room stays
  pub same_ready : (all : List (Listed T)) (i : ℕ) (old new : Listed T) → old ≡ get_or all i old →
      new.ready ≡ old.ready → map ready_of (slice_set all i new)
      ≡ map ready_of all
  same_ready all i old new is kept = map-set_same ready_of all i new old (kept ∙ ap ready_of is)

  pub same_items : (all : List (Listed T)) (i : ℕ) (old new : Listed T) → old ≡ get_or all i old →
      new.items ≡ old.items → items_in (slice_set all i new)
      ≡ items_in all
  same_items all i old new is kept = map-set_same items_of all i new old (kept ∙ ap items_of is)

  -- what making room for the lists before this one has come to
  pub record Made (before : List (Listed T)) (all : List (Listed T)) (i : ℕ) : Type 0 where
    pub same : items_in all ≡ items_in before
    pub long : length all ≡ length before
    pub ready : are_ready (take i all) ≡ true

  pub made_more : (before all : List (Listed T)) (i : ℕ) (old new : Listed T) → i < length all →
      old ≡ get_or all i old → new.items ≡ old.items →
      IsTrue new.ready → Made before all i → Made before (slice_set all i new) (i + 1)
  made_more before all i old new within is kept has made = record {
    same = same_items all i old new is kept ∙ made.same;
    long = length-set all i new ∙ made.long;
    ready = ap are_ready (take_more_set all i new within) ∙ list_all-append ready_of (take i all) (new ∷ [])
        ∙ and_from (are_ready (take i all)) (are_ready (new ∷ [])) made.ready (ap (λ (b : Bool). b && true)
        (true_is new.ready has));
  }

  -- once room was made for each list, all have it
  pub all_made : (before all : List (Listed T)) (n : ℕ) → length all ≤ n → Made before all n → IsTrue (are_ready all)
  all_made before all n whole made = is_true (are_ready all) (ap are_ready (sym (take_all n all whole)) ∙ made.ready)

  -- each list still has room where the one that changed has
  pub still_ready : (all : List (Listed T)) (i : ℕ) (new : Listed T) → IsTrue (are_ready all) → IsTrue new.ready →
      IsTrue (are_ready (slice_set all i new))
  still_ready [] i new before has = before
  still_ready (l ∷ all) zero new before has =
      both_true new.ready (are_ready all) has (second_true l.ready (are_ready all) before)
  still_ready (l ∷ all) (suc i) new before has =
      both_true l.ready (are_ready (slice_set all i new)) (first_true l.ready (are_ready all) before)
      (still_ready all i new (second_true l.ready (are_ready all) before) has)

  -- where one list's room stays, what is known of all does
  pub known_still : (all : List (Listed T)) (i : ℕ) (old new : Listed T) → old ≡ get_or all i old →
      new.ready ≡ old.ready → IsTrue (are_ready all) →
      IsTrue (are_ready (slice_set all i new))
  known_still [] i old new is kept before = before
  known_still (l ∷ all) zero old new is kept before =
      both_true new.ready (are_ready all) (subst IsTrue (sym (kept ∙ ap ready_of is))
      (first_true l.ready (are_ready all) before))
      (second_true l.ready (are_ready all) before)
  known_still (l ∷ all) (suc i) old new is kept before =
      both_true l.ready (are_ready (slice_set all i new)) (first_true l.ready (are_ready all) before)
      (known_still all i old new is kept (second_true l.ready (are_ready all) before))

  -- each list has room where all have
  pub ready_each : (all : List (Listed T)) (i : ℕ) → IsTrue (are_ready all) → i < length all →
      IsTrue (is_ready_at all i)
  ready_each [] i before within = absurd (omega arith)
  ready_each (l ∷ all) zero before within = first_true l.ready (are_ready all) before
  ready_each (l ∷ all) (suc i) before within = ready_each all i (second_true l.ready (are_ready all) before)
      (omega arith)

  ready_in : (all : List (Listed T)) → ((i : ℕ) → i < length all → IsTrue (is_ready_at all i)) → IsTrue (are_ready all)
  ready_in [] each = refl
  ready_in (l ∷ all) each =
      both_true l.ready (are_ready all) (each 0 (omega arith)) (ready_in all (λ i lt. each (suc i) (omega arith)))

  -- ---- where all lists but one have room

  same_at : (all : List (Listed T)) (i : ℕ) (new : Listed T) → i < length all →
      is_ready_at (slice_set all i new) i ≡ new.ready
  same_at [] i new lt = absurd (omega arith)
  same_at (l ∷ all) zero new lt = refl
  same_at (l ∷ all) (suc i) new lt = same_at all i new (omega arith)

  -- a list without room, where all had it, or all but this one
  pub others_but : (all : List (Listed T)) (i : ℕ) (new : Listed T) →
      ((k : ℕ) → k < length all → k ≢ i → IsTrue (is_ready_at all k)) → OthersReady (slice_set all i new) i
  others_but all i new each = record {
    each = λ k within lt apart. subst IsTrue (sym (ready_elsewhere all i k new apart))
        (each k (omega (arith, lt, length-set all i new)) apart);
  }

  -- a list that has room now
  pub others_more : (all : List (Listed T)) (i full : ℕ) (new : Listed T) → i < length all → IsTrue new.ready →
      OthersReady all full → OthersReady (slice_set all i new) full
  others_more all i full new inside has others = record {
    each = λ k within lt apart. elim (cases_eq k i) [
      | inl same ↦ subst (λ (n : ℕ). IsTrue (is_ready_at (slice_set all i new) n)) (sym same)
          (subst IsTrue (sym (same_at all i new inside)) has)
      | inr other ↦ subst IsTrue (sym (ready_elsewhere all i k new other))
          (others.each k (omega (arith, within, length-set all i new)) (omega (arith, lt, length-set all i new)) apart)
    ];
  }

  -- no place is known
  pub others_none : (all : List (Listed T)) (full : ℕ) → length all ≤ full → OthersReady all full
  others_none all full past = record { each = λ k within. absurd (omega arith) }

  -- room for the one list is room for all
  pub others_made : (all : List (Listed T)) (full : ℕ) (new : Listed T) → full < length all → IsTrue new.ready →
      OthersReady all full → IsTrue (are_ready (slice_set all full new))
  others_made all full new inside has others = ready_in (slice_set all full new) (λ k lt. elim (cases_eq k full) [
    | inl same ↦ subst (λ (n : ℕ). IsTrue (is_ready_at (slice_set all full new) n)) (sym same)
        (subst IsTrue (sym (same_at all full new inside)) has)
    | inr other ↦ (others_more all full full new inside has others).each k
        (omega (arith, inside, length-set all full new)) lt other
  ])

  -- and where that one has room, all have
  pub others_tell : (all : List (Listed T)) (full : ℕ) (ready : Bool) → full < length all →
      ready ≡ is_ready_at all full → OthersReady all full → ready ≡ are_ready all
  others_tell all full true inside is others = sym (true_is (are_ready all)
      (ready_in all (λ k lt. elim (cases_eq k full) [
        | inl same ↦ subst (λ (n : ℕ). IsTrue (is_ready_at all n)) (sym same) (subst IsTrue is refl)
        | inr other ↦ others.each k inside lt other
      ])))
  others_tell all full false inside is others = none (are_ready all) refl
    where
      none : (whole : Bool) → are_ready all ≡ whole → false ≡ are_ready all
      none true ready = is ∙ ready_each all full ready inside ∙ sym ready
      none false ready = sym ready

  -- a list's room stays
  pub others_still : (all more : List (Listed T)) (full : ℕ) → map ready_of more ≡ map ready_of all →
      length more ≡ length all → OthersReady all full → OthersReady more full
  others_still all more full same long others = record {
    each = λ k within lt apart. subst (λ (bs : List Bool). IsTrue (get_or bs k false)) (sym same)
        (others.each k (omega arith) (omega arith) apart);
  }
