-- The four sets of a word: the set of a kind has its bits from the kind's place on, so that what is written at one
-- kind's places leaves the other kinds as they were.
use Rattle.std.proofs.Common.{◌≡◌, ◌≢◌, ◌∙◌, ◌⊎◌, inl, inr, refl, sym, ap, ℕ, zero, suc, ◌+◌, ◌-◌, ◌*◌, ◌/◌, ◌%◌, ◌^◌}
use Rattle.std.proofs.Common.{◌<◌, ◌≤◌, Bool, true, false, arith, ◌&&◌, ◌||◌, ◌==◌}
use Rattle.std.specs.Prelude.{bit_and, bit_or, not}
use Rattle.std.specs.Int.{bit_at, bit_not, w64}
use Rattle.std.proofs.lemmas.Nat.{and_mask, shr-shr}
use Rattle.std.proofs.lemmas.Nat.Bits.{bit_at-zero, bit_at_above, bit_at_cat_high, bit_at_cat_low, bit_at_clear_other}
use Rattle.std.proofs.lemmas.Nat.Bits.{bit_at_clear_same, bit_at_set_other, bit_at_set_same}
use Rattle.std.proofs.lemmas.Bool.{cases_lt}
use Rattle.rtr_types.specs.CoreSets.{has}
use Rattle.rtr_types.specs.declared.TheConstants.{CORES_MAX}
use Rattle.rtr_types.specs.declared.core_set.CoreSet.{CoreSet}
use Rattle.move_marks.specs.declared.marks.MoveKind.{MoveKind}
use Rattle.move_marks.specs.declared.marks.MoveKind.TheVariants.{Own, Request, Response, FromHome}
use Rattle.move_marks.specs.declared.marks.MoveMarks.{MoveMarks}
use Rattle.move_marks.specs.Kinds.{place_of, set_of}
use Rattle.move_marks.proofs.SetBits.{bit_and_is, bit_not_is, bit_or_is, has_is, is_bit, none_past}

-- ---- places
number : MoveKind → ℕ
number Own = 0
number Request = 1
number Response = 2
number FromHome = 3

kind_at : ℕ → MoveKind
kind_at zero = Own
kind_at (suc zero) = Request
kind_at (suc (suc zero)) = Response
kind_at (suc (suc (suc n))) = FromHome

back : (kind : MoveKind) → kind_at (number kind) ≡ kind
unfolding number kind_at
back Own = refl
back Request = refl
back Response = refl
back FromHome = refl

place_is : (kind : MoveKind) → place_of kind ≡ 16 * number kind
unfolding number
place_is Own = refl
place_is Request = refl
place_is Response = refl
place_is FromHome = refl

pub place_within : (kind : MoveKind) → place_of kind ≤ 48
place_within Own = omega arith
place_within Request = omega arith
place_within Response = omega arith
place_within FromHome = omega arith

same_kind : (k kind : MoveKind) → number k ≡ number kind → k ≡ kind
same_kind k kind same = sym (back k) ∙ ap kind_at same ∙ back kind

apart : (k kind : MoveKind) (c core : ℕ) → c < CORES_MAX → core < CORES_MAX → (k ≡ kind → c ≢ core) →
    place_of k + c ≢ place_of kind + core
apart k kind c core within here other same =
    let numbers : number k ≡ number kind = omega (arith, place_is k, place_is kind) in
    other (same_kind k kind numbers) (omega (arith, place_is k, place_is kind))

-- ---- reading
bit_low : (x i : ℕ) → i < 16 → bit_at (x % 65536) i ≡ bit_at x i
bit_low x i within =
    let parts : (x / 65536) * 65536 + x % 65536 ≡ x = omega arith in
    sym (bit_at_cat_low (x / 65536) 16 (x % 65536) i within) ∙ ap (λ (n : ℕ). bit_at n i) parts

bit_high : (x place i : ℕ) → bit_at (x / 2 ^ place) i ≡ bit_at x (place + i)
bit_high x place i = ap (λ (y : ℕ). y % 2) (shr-shr x place i)

pub in_set : (kind : MoveKind) (marks : MoveMarks) (c : ℕ) → c < CORES_MAX →
    has (set_of kind marks) c ≡ is_bit marks.bits (place_of kind + c)
unfolding set_of
in_set kind marks c within =
    has_is (set_of kind marks) c
    ∙ ap (λ (x : ℕ). x == 1)
    (bit_low (marks.bits / 2 ^ place_of kind) c within ∙ bit_high marks.bits (place_of kind) c)

pub past_set : (kind : MoveKind) (marks : MoveMarks) (c : ℕ) → CORES_MAX ≤ c → has (set_of kind marks) c ≡ false
unfolding set_of
past_set kind marks c past = none_past (set_of kind marks) c (omega arith) past

pub none_set : (kind : MoveKind) (c : ℕ) → has (set_of kind (record { bits = 0 })) c ≡ false
none_set kind c = by (cases_lt c CORES_MAX)
  where
    by : (c < CORES_MAX) ⊎ (CORES_MAX ≤ c) → has (set_of kind (record { bits = 0 })) c ≡ false
    by (inl at) = in_set kind (record { bits = 0 }) c at ∙ ap (λ (x : ℕ). x == 1) (bit_at-zero (place_of kind + c))
    by (inr past) = past_set kind (record { bits = 0 }) c past

-- a set by its bits
abbrev pub set_by : ℕ → CoreSet
set_by b = record { bits = b }

pub set_is : (kind : MoveKind) (marks : MoveMarks) (place : ℕ) → place ≡ place_of kind →
    set_by (bit_and (marks.bits / 2 ^ place) 65535) ≡ set_of kind marks
unfolding set_of
set_is kind marks place at =
    ap set_by
    (ap (λ (p : ℕ). bit_and (marks.bits / 2 ^ p) 65535) at ∙ and_mask (marks.bits / 2 ^ place_of kind) 16)

-- ---- one bit is written
module _ (kind : MoveKind) (bits core : ℕ) (here : core < CORES_MAX) where
  within : place_of kind + core < 64
  within = omega (arith, place_within kind)

  pub mark_this :
      has (set_of kind (record { bits = bit_or bits (1 * 2 ^ (place_of kind + core) % 2 ^ 64) })) core ≡ true
  mark_this = in_set kind (record { bits = bit_or bits (1 * 2 ^ (place_of kind + core) % 2 ^ 64) }) core here
      ∙ ap (λ (x : ℕ). x == 1) (bit_at_set_same w64 bits (place_of kind + core) within)

  pub mark_others : (k : MoveKind) (c : ℕ) → (k ≡ kind → c ≢ core) →
      has (set_of k (record { bits = bit_or bits (1 * 2 ^ (place_of kind + core) % 2 ^ 64) })) c
      ≡ has (set_of k (record { bits = bits })) c
  mark_others k c other = by (cases_lt c CORES_MAX)
    where
      by : (c < CORES_MAX) ⊎ (CORES_MAX ≤ c) →
          has (set_of k (record { bits = bit_or bits (1 * 2 ^ (place_of kind + core) % 2 ^ 64) })) c
          ≡ has (set_of k (record { bits = bits })) c
      by (inl at) =
          in_set k (record { bits = bit_or bits (1 * 2 ^ (place_of kind + core) % 2 ^ 64) }) c at
          ∙ ap (λ (x : ℕ). x == 1) (bit_at_set_other w64 bits (place_of kind + core) within (place_of k + c)
          (apart k kind c core at here other))
          ∙ sym (in_set k (record { bits = bits }) c at)
      by (inr past) =
          past_set k (record { bits = bit_or bits (1 * 2 ^ (place_of kind + core) % 2 ^ 64) }) c past
          ∙ sym (past_set k (record { bits = bits }) c past)

  pub clear_this :
      has (set_of kind (record { bits = bit_and bits (bit_not w64 (1 * 2 ^ (place_of kind + core) % 2 ^ 64)) })) core
      ≡ false
  clear_this =
      in_set kind (record { bits = bit_and bits (bit_not w64 (1 * 2 ^ (place_of kind + core) % 2 ^ 64)) }) core here
      ∙ ap (λ (x : ℕ). x == 1) (bit_at_clear_same w64 bits (place_of kind + core) within)

  pub clear_others : (k : MoveKind) (c : ℕ) → (k ≡ kind → c ≢ core) →
      has (set_of k (record { bits = bit_and bits (bit_not w64 (1 * 2 ^ (place_of kind + core) % 2 ^ 64)) })) c
      ≡ has (set_of k (record { bits = bits })) c
  clear_others k c other = by (cases_lt c CORES_MAX)
    where
      by : (c < CORES_MAX) ⊎ (CORES_MAX ≤ c) →
          has (set_of k (record { bits = bit_and bits (bit_not w64 (1 * 2 ^ (place_of kind + core) % 2 ^ 64)) })) c
          ≡ has (set_of k (record { bits = bits })) c
      by (inl at) =
          in_set k (record { bits = bit_and bits (bit_not w64 (1 * 2 ^ (place_of kind + core) % 2 ^ 64)) }) c at
          ∙ ap (λ (x : ℕ). x == 1) (bit_at_clear_other w64 bits (place_of kind + core) within (place_of k + c)
          (omega (arith, place_within k)) (apart k kind c core at here other))
          ∙ sym (in_set k (record { bits = bits }) c at)
      by (inr past) =
          past_set k (record { bits = bit_and bits (bit_not w64 (1 * 2 ^ (place_of kind + core) % 2 ^ 64)) }) c past
          ∙ sym (past_set k (record { bits = bits }) c past)

-- ---- a whole set is written
-- a set's bits at a kind's places
shifted : (kind : MoveKind) (s : ℕ) → s < 65536 → s * 2 ^ place_of kind % 2 ^ 64 ≡ s * 2 ^ place_of kind
shifted Own s fits = omega arith
shifted Request s fits = omega arith
shifted Response s fits = omega arith
shifted FromHome s fits = omega arith

plus_none : (n : ℕ) → n ≡ n + 0
plus_none n = omega arith

power_some : (kind : MoveKind) → 0 < 2 ^ place_of kind
power_some Own = omega arith
power_some Request = omega arith
power_some Response = omega arith
power_some FromHome = omega arith

bit_past : (kind : MoveKind) (s i : ℕ) → place_of kind ≤ i →
    bit_at (s * 2 ^ place_of kind) i ≡ bit_at s (i - place_of kind)
bit_past kind s i past =
    ap (λ (n : ℕ). bit_at n i) (plus_none (s * 2 ^ place_of kind))
    ∙ bit_at_cat_high s (place_of kind) 0 i (power_some kind) past

bit_own : (kind : MoveKind) (s c : ℕ) → is_bit (s * 2 ^ place_of kind) (place_of kind + c) ≡ is_bit s c
bit_own kind s c =
    let at : place_of kind + c - place_of kind ≡ c = omega arith in
    ap (λ (x : ℕ). x == 1) (bit_past kind s (place_of kind + c) (omega arith) ∙ ap (bit_at s) at)

bit_other : (kind k : MoveKind) (s c : ℕ) → s < 65536 → c < CORES_MAX → k ≢ kind →
    is_bit (s * 2 ^ place_of kind) (place_of k + c) ≡ false
bit_other kind k s c fits within other = ap (λ (x : ℕ). x == 1) (by (cases_lt (place_of k + c) (place_of kind)))
  where
    by : (place_of k + c < place_of kind) ⊎ (place_of kind ≤ place_of k + c) →
        bit_at (s * 2 ^ place_of kind) (place_of k + c) ≡ 0
    by (inl below) =
        ap (λ (n : ℕ). bit_at n (place_of k + c)) (plus_none (s * 2 ^ place_of kind))
        ∙ bit_at_cat_low s (place_of kind) 0 (place_of k + c) below
        ∙ bit_at-zero (place_of k + c)
    by (inr past) =
        let differ : number k ≢ number kind = λ same. other (same_kind k kind same) in
        bit_past kind s (place_of k + c) past
        ∙ bit_at_above s 16 (place_of k + c - place_of kind) fits
        (grind (arith, place_is k, place_is kind, differ, past, within))

module _ (kind : MoveKind) (bits : ℕ) (set : CoreSet) (fits : set.bits < 65536) where
  mask : ℕ
  mask = set.bits * 2 ^ place_of kind % 2 ^ 64

  in_mask : (k : MoveKind) (c : ℕ) → is_bit (set.bits * 2 ^ place_of kind % 2 ^ 64) (place_of k + c)
      ≡ is_bit (set.bits * 2 ^ place_of kind) (place_of k + c)
  in_mask k c = ap (λ (n : ℕ). is_bit n (place_of k + c)) (shifted kind set.bits fits)

  pub join_these : (c : ℕ) →
      has (set_of kind (record { bits = bit_or bits (set.bits * 2 ^ place_of kind % 2 ^ 64) })) c
      ≡ (has (set_of kind (record { bits = bits })) c || has set c)
  join_these c = by (cases_lt c CORES_MAX)
    where
      by : (c < CORES_MAX) ⊎ (CORES_MAX ≤ c) →
          has (set_of kind (record { bits = bit_or bits (set.bits * 2 ^ place_of kind % 2 ^ 64) })) c
          ≡ (has (set_of kind (record { bits = bits })) c || has set c)
      by (inl at) =
          in_set kind (record { bits = bit_or bits (set.bits * 2 ^ place_of kind % 2 ^ 64) }) c at
          ∙ bit_or_is bits (set.bits * 2 ^ place_of kind % 2 ^ 64) (place_of kind + c)
          ∙ (λ i. sym (in_set kind (record { bits = bits }) c at) i
          || (in_mask kind c ∙ bit_own kind set.bits c ∙ sym (has_is set c)) i)
      by (inr past) =
          past_set kind (record { bits = bit_or bits (set.bits * 2 ^ place_of kind % 2 ^ 64) }) c past
          ∙ sym (λ i. past_set kind (record { bits = bits }) c past i || none_past set c fits past i)

  pub join_others : (k : MoveKind) (c : ℕ) → k ≢ kind →
      has (set_of k (record { bits = bit_or bits (set.bits * 2 ^ place_of kind % 2 ^ 64) })) c
      ≡ has (set_of k (record { bits = bits })) c
  join_others k c other = by (cases_lt c CORES_MAX)
    where
      or_none : (b : Bool) → (b || false) ≡ b
      or_none true = refl
      or_none false = refl

      by : (c < CORES_MAX) ⊎ (CORES_MAX ≤ c) →
          has (set_of k (record { bits = bit_or bits (set.bits * 2 ^ place_of kind % 2 ^ 64) })) c
          ≡ has (set_of k (record { bits = bits })) c
      by (inl at) =
          in_set k (record { bits = bit_or bits (set.bits * 2 ^ place_of kind % 2 ^ 64) }) c at
          ∙ bit_or_is bits (set.bits * 2 ^ place_of kind % 2 ^ 64) (place_of k + c)
          ∙ ap (λ (b : Bool). is_bit bits (place_of k + c) || b)
          (in_mask k c ∙ bit_other kind k set.bits c fits at other)
          ∙ or_none (is_bit bits (place_of k + c))
          ∙ sym (in_set k (record { bits = bits }) c at)
      by (inr past) =
          past_set k (record { bits = bit_or bits (set.bits * 2 ^ place_of kind % 2 ^ 64) }) c past
          ∙ sym (past_set k (record { bits = bits }) c past)

  mask_fits : set.bits * 2 ^ place_of kind % 2 ^ 64 < 2 ^ 64
  mask_fits = omega arith

  in_rest : (k : MoveKind) (c : ℕ) → c < CORES_MAX →
      is_bit (bit_not w64 (set.bits * 2 ^ place_of kind % 2 ^ 64)) (place_of k + c)
      ≡ not (is_bit (set.bits * 2 ^ place_of kind) (place_of k + c))
  in_rest k c at =
      bit_not_is (set.bits * 2 ^ place_of kind % 2 ^ 64) (place_of k + c) mask_fits (omega (arith, place_within k))
      ∙ ap not (in_mask k c)

  pub but_these : (c : ℕ) →
      has (set_of kind (record { bits = bit_and bits (bit_not w64 (set.bits * 2 ^ place_of kind % 2 ^ 64)) })) c
      ≡ (has (set_of kind (record { bits = bits })) c && not (has set c))
  but_these c = by (cases_lt c CORES_MAX)
    where
      by : (c < CORES_MAX) ⊎ (CORES_MAX ≤ c) →
          has (set_of kind (record { bits = bit_and bits (bit_not w64 (set.bits * 2 ^ place_of kind % 2 ^ 64)) })) c
          ≡ (has (set_of kind (record { bits = bits })) c && not (has set c))
      by (inl at) =
          in_set kind (record { bits = bit_and bits (bit_not w64 (set.bits * 2 ^ place_of kind % 2 ^ 64)) }) c at
          ∙ bit_and_is bits (bit_not w64 (set.bits * 2 ^ place_of kind % 2 ^ 64)) (place_of kind + c)
          ∙ (λ i. sym (in_set kind (record { bits = bits }) c at) i
          && (in_rest kind c at ∙ ap not (bit_own kind set.bits c ∙ sym (has_is set c))) i)
      by (inr past) =
          past_set kind (record { bits = bit_and bits (bit_not w64 (set.bits * 2 ^ place_of kind % 2 ^ 64)) }) c past
          ∙ ap (λ (b : Bool). b && not (has set c)) (sym (past_set kind (record { bits = bits }) c past))

  pub but_others : (k : MoveKind) (c : ℕ) → k ≢ kind →
      has (set_of k (record { bits = bit_and bits (bit_not w64 (set.bits * 2 ^ place_of kind % 2 ^ 64)) })) c
      ≡ has (set_of k (record { bits = bits })) c
  but_others k c other = by (cases_lt c CORES_MAX)
    where
      and_all : (b : Bool) → (b && true) ≡ b
      and_all true = refl
      and_all false = refl

      by : (c < CORES_MAX) ⊎ (CORES_MAX ≤ c) →
          has (set_of k (record { bits = bit_and bits (bit_not w64 (set.bits * 2 ^ place_of kind % 2 ^ 64)) })) c
          ≡ has (set_of k (record { bits = bits })) c
      by (inl at) =
          in_set k (record { bits = bit_and bits (bit_not w64 (set.bits * 2 ^ place_of kind % 2 ^ 64)) }) c at
          ∙ bit_and_is bits (bit_not w64 (set.bits * 2 ^ place_of kind % 2 ^ 64)) (place_of k + c)
          ∙ ap (λ (b : Bool). is_bit bits (place_of k + c) && b)
          (in_rest k c at ∙ ap not (bit_other kind k set.bits c fits at other))
          ∙ and_all (is_bit bits (place_of k + c))
          ∙ sym (in_set k (record { bits = bits }) c at)
      by (inr past) =
          past_set k (record { bits = bit_and bits (bit_not w64 (set.bits * 2 ^ place_of kind % 2 ^ 64)) }) c past
          ∙ sym (past_set k (record { bits = bits }) c past)
