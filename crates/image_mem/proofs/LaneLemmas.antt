-- The bytes of a word after some of them were written over are the lanes of the merged word.
use Rattle.std.proofs.Common.{◌≡◌, ◌⊎◌, inl, inr, ℕ, zero, suc, ◌+◌, ◌-◌, ◌/◌, ◌%◌, ◌^◌, ◌<◌, lit<, Bool, true, false}
use Rattle.std.proofs.Common.{IsTrue, [], ◌∷◌, ◌≢◌, refl, sym, arith, w32}
use Rattle.std.specs.Prelude.{if◌then◌else◌, slice_index, slice_set}
use Rattle.std.specs.Int.{byte_at, to_le_bytes, from_le_bytes}
use Rattle.std.proofs.lemmas.Nat.{mod_below}
use Rattle.std.proofs.lemmas.Bool.Decides.{nat_tests}
use Rattle.image_mem.specs.Lanes.{is_access_size, is_lane_of, merged_lane, merged}

-- the number of the old bytes with one taken from the value
abbrev IsByteMerge : (old value first : ℕ) → Type 0
IsByteMerge old value first =
    from_le_bytes w32 (slice_set (to_le_bytes w32 old) first (slice_index (to_le_bytes w32 value) 0))
    ≡ merged old value first 1

-- and with two
abbrev IsHalfMerge : (old value first : ℕ) → Type 0
IsHalfMerge old value first =
    from_le_bytes w32 (slice_set (slice_set (to_le_bytes w32 old) first (slice_index (to_le_bytes w32 value) 0))
    (first + 1) (slice_index (to_le_bytes w32 value) 1))
    ≡ merged old value first 2

merge_byte : (old value first : ℕ) → first < 4 → IsByteMerge old value first
unfolding merged
merge_byte old value zero h = refl
merge_byte old value (suc zero) h = refl
merge_byte old value (suc (suc zero)) h = refl
merge_byte old value (suc (suc (suc zero))) h = refl
merge_byte old value (suc (suc (suc (suc first)))) h = absurd (omega arith)

merge_half : (old value first : ℕ) → first < 4 → first % 2 ≡ 0 → IsHalfMerge old value first
unfolding merged
merge_half old value zero h e = refl
merge_half old value (suc zero) h e = absurd (omega arith)
merge_half old value (suc (suc zero)) h e = refl
merge_half old value (suc (suc (suc zero))) h e = absurd (omega arith)
merge_half old value (suc (suc (suc (suc first)))) h e = absurd (omega arith)

-- the three sizes
pub sizes : (size : ℕ) → IsTrue (is_access_size size) → (size ≡ 1) ⊎ ((size ≡ 2) ⊎ (size ≡ 4))
sizes size h = grind (arith, nat_tests)

pub is_byte : (old value address size : ℕ) → IsTrue (is_access_size size) → size ≢ 2 → size ≢ 4 →
    from_le_bytes w32 (slice_set (to_le_bytes w32 old) (address % 4) (slice_index (to_le_bytes w32 value) 0))
    ≡ merged old value (address % 4) size
is_byte old value address size h no_half no_whole = elim (sizes size h) [
  | inl e ↦ rw e (merge_byte old value (address % 4) (omega arith))
  | inr rest ↦ elim rest [ inl e ↦ absurd (no_half e) | inr e ↦ absurd (no_whole e) ]
]

pub is_half : (old value address size : ℕ) → address % size ≡ 0 → size ≡ 2 →
    from_le_bytes w32 (slice_set
    (slice_set (to_le_bytes w32 old) (address % 4) (slice_index (to_le_bytes w32 value) 0))
    (address % 4 + 1) (slice_index (to_le_bytes w32 value) 1))
    ≡ merged old value (address % 4) size
is_half old value address size aligned e =
    let k : address % 2 ≡ 0 = rw e at aligned in
    rw e (merge_half old value (address % 4) (omega arith) (omega (arith, k)))

pub byte_at-below : (k n : ℕ) → byte_at k n < 256
byte_at-below zero n = omega arith
byte_at-below (suc k) n = mod_below (n / 256 ^ suc k) 256 (lit< tt)

chosen_below : (test : Bool) (a b : ℕ) → a < 256 → b < 256 → (if test then a else b) < 256
chosen_below true a b h k = h
chosen_below false a b h k = k

pub merged_lane-below : (old value first size lane : ℕ) → merged_lane old value first size lane < 256
merged_lane-below old value first size lane =
    chosen_below (is_lane_of first size lane) (byte_at (lane - first) value) (byte_at lane old)
    (byte_at-below (lane - first) value) (byte_at-below lane old)

four_below : (a b c d : ℕ) → a < 256 → b < 256 → c < 256 → d < 256 → from_le_bytes w32 (a ∷ b ∷ c ∷ d ∷ []) < 2 ^ 32
four_below a b c d h i j k = omega arith

-- a merged word is a word
pub merged-below : (old value first size : ℕ) → merged old value first size < 2 ^ 32
unfolding merged
merged-below old value first size =
    let at = λ (k : ℕ). merged_lane old value first size k in
    let below = λ (k : ℕ). merged_lane-below old value first size k in
    four_below (at 0) (at 1) (at 2) (at 3) (below 0) (below 1) (below 2) (below 3)

-- four lanes leave nothing of the old word
pub merged-whole : (one other value : ℕ) → merged one value 0 4 ≡ merged other value 0 4
unfolding merged
merged-whole one other value = refl

-- and they are the value's
pub merged-value : (old value : ℕ) → value < 2 ^ 32 → merged old value 0 4 ≡ value
unfolding merged
merged-value old value h = omega arith

pub is_value : (old value address size : ℕ) → value < 2 ^ 32 → address % size ≡ 0 → size ≡ 4 →
    value ≡ merged old value (address % 4) size
is_value old value address size h aligned four =
    let lane : address % 4 ≡ 0 = rw four at aligned in
    rw four (rw lane (sym (merged-value old value h)))
