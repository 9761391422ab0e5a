-- A set's bits are the flags of its members, in order: so many are set as there are members, and the n-th member
-- stands at the lowest bit that is left once the n lowest that are set were taken back.
use Rattle.std.proofs.Common.{◌≡◌, ◌∙◌, ◌⊎◌, inl, inr, refl, sym, subst, ap, ℕ, zero, suc, ◌+◌, ◌-◌, ◌*◌, ◌/◌, ◌^◌}
use Rattle.std.proofs.Common.{◌<◌, ◌≤◌, Bool, true, false, cond}
use Rattle.std.proofs.Common.{List, [], ◌∷◌, length, get_or, arith, ◌==◌, zero-add}
use Rattle.std.specs.Prelude.{bit_and, map, not}
use Rattle.std.specs.Int.{bit_at}
use Rattle.std.specs.List.{filter, prefix_len, range_with_len}
use Rattle.std.proofs.lemmas.Bool.Decides.{nat_tests}
use Rattle.std.proofs.lemmas.Nat.Bits.{bit_at_above, bit_at-lt, same_from_bits}
use Rattle.std.proofs.lemmas.Simd.{bit_mask_l, ones-mask_l, trailing_mask_l}
use Rattle.std.proofs.lemmas.List.{get_or-map, get_or_past, length-map, map-id}
use Rattle.std.proofs.lemmas.List.Sums.{length-filter}
use Rattle.std.proofs.lemmas.List.Filters.{length-filter_both}
use Rattle.std.proofs.lemmas.List.FromFn.{get_or-range_with_len, length-range_with_len}
use Rattle.std.specs.Int.Bits.{and_self, and_step}
use Rattle.std.specs.Int.Count.{ones, count_trailing_zeros}
use native.Mathlib.Numerals.{one-add}
use lib.Lanes.{mask_l}
use Rattle.rtr_types.specs.CoreSets.{has}
use Rattle.rtr_types.specs.declared.TheConstants.{CORES_MAX}
use Rattle.rtr_types.specs.declared.core_set.CoreSet.{CoreSet}
use Rattle.move_marks.specs.Members.{members}

-- which cores are in the set, in order
abbrev pub flags : CoreSet → List Bool
flags set = map (has set) (range_with_len 0 CORES_MAX)

flags_long : (set : CoreSet) → length (flags set) ≡ CORES_MAX
flags_long set = length-map (range_with_len 0 CORES_MAX) (has set) ∙ length-range_with_len 0 CORES_MAX

flag_at : (set : CoreSet) (k : ℕ) → k < CORES_MAX → get_or (flags set) k false ≡ has set k
flag_at set k within =
    let long : length (range_with_len 0 CORES_MAX) ≡ CORES_MAX = length-range_with_len 0 CORES_MAX in
    get_or-map (has set) (range_with_len 0 CORES_MAX) k 0 false (omega (arith, long))
    ∙ ap (has set) (get_or-range_with_len 0 CORES_MAX k 0 within ∙ zero-add k)

flag_past : (set : CoreSet) (k : ℕ) → CORES_MAX ≤ k → get_or (flags set) k false ≡ false
flag_past set k past = get_or_past (flags set) k false (omega (arith, flags_long set))

pub as_digit : (x : ℕ) → x < 2 → x ≡ cond (x == 1) 1 0
as_digit x within = grind (arith, nat_tests)

bit_is : (set : CoreSet) (k : ℕ) → bit_at set.bits k ≡ cond (has set k) 1 0
unfolding has
bit_is set k = as_digit (bit_at set.bits k) (bit_at-lt set.bits k)

bits_are : (set : CoreSet) → set.bits < 2 ^ CORES_MAX → set.bits ≡ mask_l (flags set)
bits_are set fits = same_from_bits set.bits (mask_l (flags set)) (λ i. by i (split i CORES_MAX))
  where
    split : (a b : ℕ) → (a < b) ⊎ (b ≤ a)
    split a b = grind arith

    by : (i : ℕ) → (i < CORES_MAX) ⊎ (CORES_MAX ≤ i) → bit_at set.bits i ≡ bit_at (mask_l (flags set)) i
    by i (inl here) = bit_is set i ∙ sym (bit_mask_l (flags set) i ∙ ap (λ (b : Bool). cond b 1 0) (flag_at set i here))
    by i (inr past) =
        bit_at_above set.bits CORES_MAX i fits past
        ∙ sym (bit_mask_l (flags set) i ∙ ap (λ (b : Bool). cond b 1 0) (flag_past set i past))

pub count_is : (set : CoreSet) → set.bits < 2 ^ CORES_MAX → ones set.bits ≡ length (members set)
count_is set fits =
    ap ones (bits_are set fits)
    ∙ ones-mask_l (has set) (range_with_len 0 CORES_MAX)
    ∙ sym (length-filter (has set) (range_with_len 0 CORES_MAX))

-- there are no more members than there may be cores
pub members_few : (set : CoreSet) → length (members set) ≤ CORES_MAX
members_few set =
    omega (
      arith,
      length-filter_both (has set) (λ (c : ℕ). not (has set c)) (λ c. refl) (range_with_len 0 CORES_MAX),
      length-range_with_len 0 CORES_MAX,
    )

-- the flags with the first n of those that are set taken back
pub later : List Bool → ℕ → List Bool
later [] n = []
later (b ∷ bs) zero = b ∷ bs
later (true ∷ bs) (suc n) = false ∷ later bs n
later (false ∷ bs) (suc n) = false ∷ later bs (suc n)

all_later : (bs : List Bool) → later bs zero ≡ bs
unfolding later
all_later [] = refl
all_later (b ∷ bs) = refl

-- how many are set
abbrev set_count : List Bool → ℕ
set_count [] = 0
set_count (b ∷ bs) = cond b 1 0 + set_count bs

odd_cleared : (x : ℕ) → bit_and (1 + 2 * x) (1 + 2 * x - 1) ≡ 0 + 2 * x
odd_cleared x =
    let half : (1 + 2 * x) / 2 ≡ x = omega arith in
    let less : (1 + 2 * x - 1) / 2 ≡ x = omega arith in
    let same : bit_and ((1 + 2 * x) / 2) ((1 + 2 * x - 1) / 2) ≡ x = (λ i. bit_and (half i) (less i)) ∙ and_self x in
    omega (arith, and_step (1 + 2 * x) (1 + 2 * x - 1), same)

even_cleared : (x : ℕ) → 0 < x → bit_and (0 + 2 * x) (0 + 2 * x - 1) ≡ 0 + 2 * bit_and x (x - 1)
even_cleared x some =
    let half : (0 + 2 * x) / 2 ≡ x = omega arith in
    let less : (0 + 2 * x - 1) / 2 ≡ x - 1 = omega arith in
    let same : bit_and ((0 + 2 * x) / 2) ((0 + 2 * x - 1) / 2) ≡ bit_and x (x - 1) = (λ i. bit_and (half i) (less i)) in
    omega (arith, and_step (0 + 2 * x) (0 + 2 * x - 1), same)

-- where more than n are set, some are left
some_left : (bs : List Bool) (n : ℕ) → n < set_count bs → 0 < mask_l (later bs n)
unfolding later
some_left [] n more = absurd (omega arith)
some_left (true ∷ bs) zero more = omega arith
some_left (false ∷ bs) zero more =
    let left : 0 < mask_l bs = subst (λ (xs : List Bool). 0 < mask_l xs) (all_later bs)
    (some_left bs zero (omega arith)) in
    omega arith
some_left (true ∷ bs) (suc n) more = omega (arith, some_left bs n (omega arith))
some_left (false ∷ bs) (suc n) more = omega (arith, some_left bs (suc n) (omega arith))

-- a number without its lowest bit
lowest_cleared : (bs : List Bool) (n : ℕ) → 0 < mask_l (later bs n) →
    bit_and (mask_l (later bs n)) (mask_l (later bs n) - 1) ≡ mask_l (later bs (suc n))
unfolding later
lowest_cleared [] n some = absurd (omega arith)
lowest_cleared (true ∷ bs) zero some = odd_cleared (mask_l bs)
    ∙ ap (λ (xs : List Bool). 0 + 2 * mask_l xs) (sym (all_later bs))
lowest_cleared (false ∷ bs) zero some =
    let left : 0 < mask_l (later bs zero) = subst (λ (xs : List Bool). 0 < mask_l xs) (sym (all_later bs))
    (omega arith) in
    even_cleared (mask_l bs) (omega arith)
    ∙ ap (λ (xs : List Bool). 0 + 2 * bit_and (mask_l xs) (mask_l xs - 1)) (sym (all_later bs))
    ∙ ap (λ (x : ℕ). 0 + 2 * x) (lowest_cleared bs zero left)
lowest_cleared (true ∷ bs) (suc n) some =
    even_cleared (mask_l (later bs n)) (omega arith) ∙ ap (λ (x : ℕ). 0 + 2 * x) (lowest_cleared bs n (omega arith))
lowest_cleared (false ∷ bs) (suc n) some =
    even_cleared (mask_l (later bs (suc n))) (omega arith)
    ∙ ap (λ (x : ℕ). 0 + 2 * x) (lowest_cleared bs (suc n) (omega arith))

-- the place of the first that is left
abbrev place : List Bool → ℕ → ℕ
place bs n = prefix_len (λ (b : Bool). not b) (later bs n)

place_below : (bs : List Bool) (n : ℕ) → n < set_count bs → place bs n < length bs
unfolding later
place_below [] n more = absurd (omega arith)
place_below (true ∷ bs) zero more = omega arith
place_below (false ∷ bs) zero more =
    let first : prefix_len (λ (b : Bool). not b) bs < length bs =
    subst (λ (xs : List Bool). prefix_len (λ (b : Bool). not b) xs < length bs) (all_later bs)
    (place_below bs zero (omega arith)) in
    omega arith
place_below (true ∷ bs) (suc n) more = omega (arith, place_below bs n (omega arith))
place_below (false ∷ bs) (suc n) more = omega (arith, place_below bs (suc n) (omega arith))

one_more : {X : Type 0} (b : Bool) (x : X) (ys : List X) (n : ℕ) → length ys ≡ n →
    length (cond b (x ∷ ys) ys) ≡ cond b 1 0 + n
one_more true x ys n is = omega (arith, is)
one_more false x ys n is = omega (arith, is)

set_length : {X : Type 0} (p : X → Bool) (xs : List X) → length (filter p xs) ≡ set_count (map p xs)
set_length p [] = refl
set_length p (x ∷ xs) = one_more (p x) x (filter p xs) (set_count (map p xs)) (set_length p xs)

next_at : {X : Type 0} (x : X) (xs : List X) (k : ℕ) (d : X) → get_or (x ∷ xs) (1 + k) d ≡ get_or xs k d
next_at x xs k d = ap (λ (j : ℕ). get_or (x ∷ xs) j d) (one-add k)

one_nearer : {X : Type 0} (b : Bool) (x : X) (xs ys : List X) (bs : List Bool) (n : ℕ) (d : X) →
    ((k : ℕ) → k < set_count bs → get_or ys k d ≡ get_or xs (place bs k) d) → n < cond b 1 0 + set_count bs →
    get_or (cond b (x ∷ ys) ys) n d ≡ get_or (x ∷ xs) (place (b ∷ bs) n) d
unfolding later
one_nearer true x xs ys bs zero d rest more = refl
one_nearer true x xs ys bs (suc n) d rest more = rest n (omega arith) ∙ sym (next_at x xs (place bs n) d)
one_nearer false x xs ys bs zero d rest more =
    rest zero (omega arith)
    ∙ ap (λ (cs : List Bool). get_or xs (prefix_len (λ (b : Bool). not b) cs) d) (all_later bs)
    ∙ sym (next_at x xs (prefix_len (λ (b : Bool). not b) bs) d)
one_nearer false x xs ys bs (suc n) d rest more = rest (suc n) (omega arith) ∙ sym (next_at x xs (place bs (suc n)) d)

-- the n-th element that passes stands at the place of the first flag that is left after n
nth_is : {X : Type 0} (p : X → Bool) (xs : List X) (n : ℕ) (d : X) → n < set_count (map p xs) →
    get_or (filter p xs) n d ≡ get_or xs (place (map p xs) n) d
nth_is p [] n d more = absurd (omega arith)
nth_is p (x ∷ xs) n d more = one_nearer (p x) x xs (filter p xs) (map p xs) n d (λ k within. nth_is p xs k d within)
    more

pub begin : (set : CoreSet) → set.bits < 2 ^ CORES_MAX → set.bits ≡ mask_l (later (flags set) 0)
begin set fits = bits_are set fits ∙ ap mask_l (sym (all_later (flags set)))

pub more_left : (set : CoreSet) (n number rest : ℕ) → number < length (members set) → n ≤ number →
    rest ≡ mask_l (later (flags set) n) → 0 < rest
more_left set n number rest some within is =
    let many = set_length (has set) (range_with_len 0 CORES_MAX) in
    subst (λ (x : ℕ). 0 < x) (sym is) (some_left (flags set) n (omega (arith, many)))

pub one_less : (set : CoreSet) (n rest : ℕ) → 0 < rest → rest ≡ mask_l (later (flags set) n) →
    bit_and rest (rest - 1) ≡ mask_l (later (flags set) (n + 1))
one_less set n rest some is =
    (λ i. bit_and (is i) (is i - 1))
    ∙ lowest_cleared (flags set) n (subst (λ (x : ℕ). 0 < x) is some)
    ∙ ap (λ (k : ℕ). mask_l (later (flags set) k)) (add_one n)
  where
    add_one : (n : ℕ) → suc n ≡ n + 1
    add_one n = omega arith

length-later : (bs : List Bool) (n : ℕ) → length (later bs n) ≡ length bs
unfolding later
length-later [] n = refl
length-later (b ∷ bs) zero = refl
length-later (true ∷ bs) (suc n) = ap suc (length-later bs n)
length-later (false ∷ bs) (suc n) = ap suc (length-later bs (suc n))

module _ (set : CoreSet) (number rest : ℕ) where
  place_is : number < length (members set) → rest ≡ mask_l (later (flags set) number) →
      count_trailing_zeros CORES_MAX rest ≡ place (flags set) number
  place_is some is =
      let bs = later (flags set) number in
      let same : map (λ (b : Bool). b) bs ≡ bs = map-id bs in
      let left : 0 < rest = more_left set number number rest some (omega arith) is in
      let all : rest ≡ mask_l (map (λ (b : Bool). b) bs) = is ∙ ap mask_l (sym same) in
      let long : length bs ≤ CORES_MAX = omega (arith, length-later (flags set) number, flags_long set) in
      ap (count_trailing_zeros CORES_MAX) all
      ∙ trailing_mask_l (λ (b : Bool). b) CORES_MAX bs long (subst (λ (x : ℕ). 0 < x) all left)

  pub nth_below : number < length (members set) → rest ≡ mask_l (later (flags set) number) →
      count_trailing_zeros CORES_MAX rest < CORES_MAX
  nth_below some is =
      let many = set_length (has set) (range_with_len 0 CORES_MAX) in
      omega (arith, place_is some is, place_below (flags set) number (omega (arith, many)), flags_long set)

  pub nth_found : number < length (members set) → rest ≡ mask_l (later (flags set) number) → (d : ℕ) →
      count_trailing_zeros CORES_MAX rest ≡ get_or (members set) number d
  nth_found some is d =
      let many = set_length (has set) (range_with_len 0 CORES_MAX) in
      let k = count_trailing_zeros CORES_MAX rest in
      sym (get_or-range_with_len 0 CORES_MAX k d (nth_below some is) ∙ zero-add k)
      ∙ ap (λ (x : ℕ). get_or (range_with_len 0 CORES_MAX) x d) (place_is some is)
      ∙ sym (nth_is (has set) (range_with_len 0 CORES_MAX) number d (omega (arith, many)))
