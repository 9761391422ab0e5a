-- The counts of lists of turns, as far as numbers go.
use Rattle.std.proofs.Common.{◌≡◌, ◌∙◌, refl, sym, ap, ℕ, zero, suc, ◌<◌, ◌≤◌, ◌⊎◌, inl, inr, ◌+◌, ◌*◌, ◌^◌, min}
use Rattle.std.proofs.Common.{drop, take}
use Rattle.std.proofs.Common.{zero-add, Bool, true, false, List, [], ◌∷◌, ◌++◌, arith, length, get_or, Option, Some}
use Rattle.std.specs.Prelude.{flat_map, map, slice_index, if◌then◌else◌}
use Rattle.std.proofs.lemmas.List.{drop_all, drop_more, get_or-map, length-append, length-map, map_more}
use Rattle.rtr_types.proofs.Ranges.{map_range_more}
use Rattle.turn_lists.specs.declared.actor.Actor.{Actor}
use Rattle.turn_lists.specs.declared.actor.Turn.{Turn}
use Rattle.turn_lists.specs.Counts.{counted_on, many_of, row_of, rows_of}
use Rattle.turn_lists.specs.Few.{begun_by, had_last, lists_of}
use Rattle.turn_lists.proofs.Blocks.{begun_long}

-- the lists of one turn more that follow the last actor's, begun by one actor
abbrev pub block : List Turn → ℕ → Option Actor → Turn → List (List Turn)
block greatest turns last g =
    if had_last last g.actor then [] else begun_by g (lists_of greatest turns (Some g.actor))

pub lists_step : (greatest : List Turn) (turns : ℕ) (last : Option Actor) →
    lists_of greatest (suc turns) last ≡ flat_map (block greatest turns last) greatest
unfolding lists_of
lists_step greatest turns last = refl

pub lists_none : (greatest : List Turn) (last : Option Actor) → lists_of greatest 0 last ≡ [] ∷ []
unfolding lists_of
lists_none greatest last = refl

pub many_none : (greatest : List Turn) (last : Option Actor) → many_of greatest 0 last ≡ 1
many_none greatest last = ap (λ (ls : List (List Turn)). min (length ls) (2 ^ 64)) (lists_none greatest last)

pub block_had : (greatest : List Turn) (turns : ℕ) (last : Option Actor) (g : Turn) → had_last last g.actor ≡ true →
    block greatest turns last g ≡ []
block_had greatest turns last g had = rw had refl

pub block_begun : (greatest : List Turn) (turns : ℕ) (last : Option Actor) (g : Turn) → had_last last g.actor ≡ false →
    block greatest turns last g ≡ begun_by g (lists_of greatest turns (Some g.actor))
block_begun greatest turns last g had = rw had refl

-- ---- sums that stop at a greatest number

cap_low : (m x c : ℕ) → min (min m c + x) c ≡ min (m + x) c
cap_low m x c = omega arith

cap_step : (m k l c : ℕ) → min (min m c + k * min l c) c ≡ min (m + k * l) c
cap_step m k l c = by (cases_le l c)
  where
    cases_le : (a b : ℕ) → (a ≤ b) ⊎ (b < a)
    cases_le a b = grind arith

    high : (j : ℕ) → c < l → min (min m c + j * c) c ≡ min (m + j * l) c
    high zero past = omega arith
    high (suc j) past = omega arith

    by : (l ≤ c) ⊎ (c < l) → min (min m c + k * min l c) c ≡ min (m + k * l) c
    by (inl low) =
        let is : min l c ≡ l = omega arith in
        ap (λ (n : ℕ). min (min m c + k * n) c) is ∙ cap_low m (k * l) c
    by (inr past) =
        let is : min l c ≡ c = omega arith in
        ap (λ (n : ℕ). min (min m c + k * n) c) is ∙ high k past

module _ (greatest : List Turn) (turns : ℕ) (last : Option Actor) where
  counted_is : (gs : List Turn) (m : ℕ) →
      counted_on (min m (2 ^ 64)) gs (map (λ (g : Turn). many_of greatest turns (Some g.actor)) gs) last
      ≡ min (m + length (flat_map (block greatest turns last) gs)) (2 ^ 64)
  counted_is [] m = ap (λ (n : ℕ). min n (2 ^ 64)) (let is : m ≡ m + 0 = omega arith in is)
  counted_is (g ∷ gs) m = by (λ (n : ℕ). counted_is gs n) (had_last last g.actor) refl
    where
      rest : List ℕ
      rest = map (λ (h : Turn). many_of greatest turns (Some h.actor)) gs

      by : ((n : ℕ) → counted_on (min n (2 ^ 64)) gs (map (λ (h : Turn). many_of greatest turns (Some h.actor)) gs) last
          ≡ min (n + length (flat_map (block greatest turns last) gs)) (2 ^ 64)) →
          (b : Bool) → had_last last g.actor ≡ b →
          counted_on (min m (2 ^ 64)) (g ∷ gs) (many_of greatest turns (Some g.actor) ∷ rest) last
          ≡ min (m + length (flat_map (block greatest turns last) (g ∷ gs))) (2 ^ 64)
      by on true had = rw had (on m)
      by on false had =
          let rests = lists_of greatest turns (Some g.actor) in
          let next : min (min m (2 ^ 64) + g.count * min (length rests) (2 ^ 64)) (2 ^ 64)
          ≡ min (m + g.count * length rests) (2 ^ 64) =
          cap_step m g.count (length rests) (2 ^ 64) in
          let long = begun_long g rests in
          let both = length-append (begun_by g rests) (flat_map (block greatest turns last) gs) in
          let all : m + g.count * length rests + length (flat_map (block greatest turns last) gs)
          ≡ m + length (begun_by g rests ++ flat_map (block greatest turns last) gs) = omega (arith, long, both) in
          rw had (ap (λ (n : ℕ). counted_on n gs rest last) next ∙ on (m + g.count * length rests)
          ∙ ap (λ (n : ℕ). min n (2 ^ 64)) all)

pub counted_many : (greatest : List Turn) (turns : ℕ) (last : Option Actor) →
    counted_on 0 greatest (row_of greatest turns) last ≡ many_of greatest (suc turns) last
counted_many greatest turns last =
    counted_is greatest turns last greatest 0
    ∙ ap (λ (n : ℕ). min n (2 ^ 64)) (zero-add (length (flat_map (block greatest turns last) greatest)))
    ∙ ap (λ (ls : List (List Turn)). min (length ls) (2 ^ 64)) (sym (lists_step greatest turns last))

pub row_next : (greatest : List Turn) (turns : ℕ) →
    map (λ (g : Turn). counted_on 0 greatest (row_of greatest turns) (Some g.actor)) greatest
    ≡ row_of greatest (suc turns)
row_next greatest turns = λ i. map (λ (g : Turn). counted_many greatest turns (Some g.actor) i) greatest

pub row_long : (greatest : List Turn) (turns : ℕ) → length (row_of greatest turns) ≡ length greatest
row_long greatest turns = length-map greatest (λ (g : Turn). many_of greatest turns (Some g.actor))

pub row_at : (greatest : List Turn) (turns place : ℕ) (d : Turn) → place < length greatest →
    slice_index (row_of greatest turns) place ≡ many_of greatest turns (Some (get_or greatest place d).actor)
row_at greatest turns place d within =
    get_or-map (λ (g : Turn). many_of greatest turns (Some g.actor)) greatest place d 0 within

pub row_small : (greatest : List Turn) (turns place : ℕ) → slice_index (row_of greatest turns) place ≤ 2 ^ 64
row_small greatest turns place = small greatest place
  where
    small : (gs : List Turn) (k : ℕ) →
        slice_index (map (λ (g : Turn). many_of greatest turns (Some g.actor)) gs) k ≤ 2 ^ 64
    small [] k = omega arith
    small (g ∷ gs) zero = omega arith
    small (g ∷ gs) (suc k) = small gs k

pub rows_more : (greatest : List Turn) (turns : ℕ) →
    rows_of greatest turns ++ row_of greatest turns ∷ [] ≡ rows_of greatest (turns + 1)
rows_more greatest turns = sym (map_range_more (row_of greatest) turns)

-- the row for no turn, as far as it goes
pub ones_more : (greatest : List Turn) (i : ℕ) (d : Turn) → i < length greatest →
    map (λ (g : Turn). many_of greatest 0 (Some g.actor)) (take i greatest) ++ 1 ∷ []
    ≡ map (λ (g : Turn). many_of greatest 0 (Some g.actor)) (take (i + 1) greatest)
ones_more greatest i d within =
    ap (λ (n : ℕ). map (λ (g : Turn). many_of greatest 0 (Some g.actor)) (take i greatest) ++ n ∷ [])
    (sym (many_none greatest (Some (get_or greatest i d).actor)))
    ∙ sym (map_more (λ (g : Turn). many_of greatest 0 (Some g.actor)) greatest i d within)

-- one actor on
pub counted_step : (gs : List Turn) (row : List ℕ) (last : Option Actor) (n m i : ℕ) (d : Turn) → i < length gs →
    length row ≡ length gs →
    m ≡ (if had_last last (get_or gs i d).actor then n
    else min (n + (get_or gs i d).count * get_or row i 0) (2 ^ 64)) →
    counted_on m (drop (i + 1) gs) (drop (i + 1) row) last ≡ counted_on n (drop i gs) (drop i row) last
counted_step gs row last n m i d within long is =
    ap (λ (k : ℕ). counted_on k (drop (i + 1) gs) (drop (i + 1) row) last) is
    ∙ sym ((λ j. counted_on n (drop_more gs i d within j) (drop_more row i 0 (omega (arith, long)) j) last))

pub counted_all : (gs : List Turn) (row : List ℕ) (last : Option Actor) (n i : ℕ) → length gs ≤ i →
    counted_on n (drop i gs) (drop i row) last ≡ n
counted_all gs row last n i past =
    ap (λ (hs : List Turn). counted_on n hs (drop i row) last) (drop_all i gs past)
