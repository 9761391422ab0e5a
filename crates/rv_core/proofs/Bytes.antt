-- Words by their four bytes, and what a mask leaves of each.
use Rattle.std.proofs.Common.{◌≡◌, ◌∙◌, ap, refl, sym, ℕ, zero, suc, ◌+◌, ◌-◌, ◌*◌, ◌/◌, ◌^◌, ◌<◌, ◌≤◌, arith}
use Rattle.std.proofs.Common.{Bool, true, false, [], ◌∷◌, w32}
use Rattle.std.specs.Prelude.{if◌then◌else◌, bit_and, bit_or}
use Rattle.std.specs.Int.{bit_not, byte_at, from_le_bytes}
use Rattle.std.proofs.lemmas.Nat.{and_le_l, and_le_r, and_mask, or_disjoint, and_block, or_block}
use Rattle.image_mem.specs.Lanes.{is_lane_of, merged_lane, merged}
use Rattle.image_mem.proofs.LaneLemmas.{byte_at-below, merged_lane-below}
use Rattle.rv_core.specs.StoreMask.{masked}

-- the word of four bytes, byte 0 the lowest
word_of : (ℕ → ℕ) → ℕ
word_of f = ((f 3 * 2 ^ 8 + f 2) * 2 ^ 8 + f 1) * 2 ^ 8 + f 0

abbrev AreBytes : (ℕ → ℕ) → Type 0
AreBytes f = (k : ℕ) → f k < 256

same_word : (f g : ℕ → ℕ) → ((k : ℕ) → k ≤ 3 → f k ≡ g k) → word_of f ≡ word_of g
unfolding word_of
same_word f g each =
    let e0 = each 0 (omega arith) in
    let e1 = each 1 (omega arith) in
    let e2 = each 2 (omega arith) in
    let e3 = each 3 (omega arith) in
    omega arith

-- what an operation on bits does to two words it does to their bytes, where it does so to any two blocks of bits
by_bytes : (op : ℕ → ℕ → ℕ) → ((k a b r s : ℕ) → r < 2 ^ k → s < 2 ^ k
    → op (a * 2 ^ k + r) (b * 2 ^ k + s) ≡ op a b * 2 ^ k + op r s)
    → (f g : ℕ → ℕ) → AreBytes f → AreBytes g → op (word_of f) (word_of g) ≡ word_of (λ k. op (f k) (g k))
unfolding word_of
by_bytes op block f g lf lg =
    let high = block 8 (f 3) (g 3) (f 2) (g 2) (lf 2) (lg 2) in
    let middle = block 8 (f 3 * 2 ^ 8 + f 2) (g 3 * 2 ^ 8 + g 2) (f 1) (g 1) (lf 1) (lg 1) in
    block 8 ((f 3 * 2 ^ 8 + f 2) * 2 ^ 8 + f 1) ((g 3 * 2 ^ 8 + g 2) * 2 ^ 8 + g 1) (f 0) (g 0) (lf 0) (lg 0)
    ∙ ap (λ (x : ℕ). x * 2 ^ 8 + op (f 0) (g 0)) (middle ∙ ap (λ (x : ℕ). x * 2 ^ 8 + op (f 1) (g 1)) high)

and_words : (f g : ℕ → ℕ) → AreBytes f → AreBytes g →
    bit_and (word_of f) (word_of g) ≡ word_of (λ k. bit_and (f k) (g k))
and_words = by_bytes bit_and and_block

or_words : (f g : ℕ → ℕ) → AreBytes f → AreBytes g →
    bit_or (word_of f) (word_of g) ≡ word_of (λ k. bit_or (f k) (g k))
or_words = by_bytes bit_or or_block

not_word : (f : ℕ → ℕ) → AreBytes f → bit_not w32 (word_of f) ≡ word_of (λ k. 255 - f k)
unfolding word_of
not_word f lf = omega (arith, lf 0, lf 1, lf 2, lf 3)

word_below : (f : ℕ → ℕ) → AreBytes f → word_of f < 2 ^ 32
unfolding word_of
word_below f lf = omega (arith, lf 0, lf 1, lf 2, lf 3)

-- a number is its lowest four bytes, over what stands above
split_word : (old : ℕ) → (old / 2 ^ 32) * 2 ^ 32 + word_of (λ k. byte_at k old) ≡ old
unfolding word_of
split_word old = omega arith

pub and_zero : (n : ℕ) → bit_and n 0 ≡ 0
and_zero n = let le = and_le_r n 0 in omega arith

zero_and : (n : ℕ) → bit_and 0 n ≡ 0
zero_and n = let le = and_le_l 0 n in omega arith

zero_or : (n : ℕ) → bit_or 0 n ≡ n
zero_or n = or_disjoint 0 n (zero_and n) ∙ omega arith

or_zero : (n : ℕ) → bit_or n 0 ≡ n
or_zero n = or_disjoint n 0 (and_zero n) ∙ omega arith

and_byte : (n : ℕ) → n < 256 → bit_and n 255 ≡ n
and_byte n lt = and_mask n 8 ∙ omega arith

-- a mask of four bytes leaves nothing of what stands above them
and_word : (old : ℕ) (f : ℕ → ℕ) → AreBytes f → bit_and old (word_of f) ≡ word_of (λ k. bit_and (byte_at k old) (f k))
and_word old f lf =
    let low : ℕ = word_of (λ k. byte_at k old) in
    let low_below : low < 2 ^ 32 = word_below (λ k. byte_at k old) (λ k. byte_at-below k old) in
    let split = and_block 32 (old / 2 ^ 32) 0 low (word_of f) low_below (word_below f lf) in
    let none = and_zero (old / 2 ^ 32) in
    let zeros : 0 * 2 ^ 32 + word_of f ≡ word_of f = omega arith in
    let all : bit_and old (word_of f) ≡ bit_and low (word_of f) =
    ap (λ (x : ℕ). bit_and x (word_of f)) (sym (split_word old))
    ∙ (ap (λ (x : ℕ). bit_and ((old / 2 ^ 32) * 2 ^ 32 + low) x) (sym zeros) ∙ (split ∙ omega arith)) in
    all ∙ and_words (λ k. byte_at k old) f (λ k. byte_at-below k old) lf

masked_word : (old : ℕ) (m b : ℕ → ℕ) → AreBytes m → AreBytes b →
    masked old (word_of m) (word_of b) ≡ word_of (λ k. bit_or (bit_and (byte_at k old) (255 - m k)) (b k))
masked_word old m b lm lb =
    let kept = ap (λ (x : ℕ). bit_and old x) (not_word m lm) ∙ and_word old (λ k. 255 - m k) (λ k. omega arith) in
    ap (λ (x : ℕ). bit_or x (word_of b)) kept
    ∙ or_words (λ k. bit_and (byte_at k old) (255 - m k)) b
    (λ k. let le = and_le_l (byte_at k old) (255 - m k) in let lt = byte_at-below k old in omega arith) lb

merged_word : (old value first size : ℕ) → merged old value first size ≡ word_of (merged_lane old value first size)
unfolding merged word_of
merged_word old value first size =
    bytes (merged_lane old value first size 0) (merged_lane old value first size 1)
    (merged_lane old value first size 2) (merged_lane old value first size 3)
  where
    bytes : (a b c d : ℕ) →
        from_le_bytes w32 (a ∷ b ∷ c ∷ d ∷ []) ≡ ((d * 2 ^ 8 + c) * 2 ^ 8 + b) * 2 ^ 8 + a
    bytes a b c d = omega arith

-- ---- one lane of a mask, and of its bits

ones_byte : (k : ℕ) → k ≤ 3 → byte_at k (2 ^ 32 - 1) ≡ 255
ones_byte zero le = refl
ones_byte (suc zero) le = refl
ones_byte (suc (suc zero)) le = refl
ones_byte (suc (suc (suc zero))) le = refl
ones_byte (suc (suc (suc (suc k)))) le = absurd (omega arith)

zeros_byte : (k : ℕ) → k ≤ 3 → byte_at k 0 ≡ 0
zeros_byte zero le = refl
zeros_byte (suc zero) le = refl
zeros_byte (suc (suc zero)) le = refl
zeros_byte (suc (suc (suc zero))) le = refl
zeros_byte (suc (suc (suc (suc k)))) le = absurd (omega arith)

-- a lane of the mask leaves the old byte or gives it up, and a lane of the bits takes its place
one_lane : (old value first size k : ℕ) → k ≤ 3 →
    bit_or (bit_and (byte_at k old) (255 - merged_lane 0 (2 ^ 32 - 1) first size k)) (merged_lane 0 value first size k)
    ≡ merged_lane old value first size k
one_lane old value first size k le = by_test (is_lane_of first size k)
  where
    by_test : (t : Bool) →
        bit_or (bit_and (byte_at k old) (255 - (if t then byte_at (k - first) (2 ^ 32 - 1) else byte_at k 0)))
        (if t then byte_at (k - first) value else byte_at k 0)
        ≡ (if t then byte_at (k - first) value else byte_at k old)
    by_test true =
        ap (λ (m : ℕ). bit_or (bit_and (byte_at k old) (255 - m)) (byte_at (k - first) value))
        (ones_byte (k - first) (omega arith))
        ∙ (ap (λ (x : ℕ). bit_or x (byte_at (k - first) value)) (and_zero (byte_at k old))
        ∙ zero_or (byte_at (k - first) value))
    by_test false =
        ap (λ (z : ℕ). bit_or (bit_and (byte_at k old) (255 - z)) z) (zeros_byte k le)
        ∙ (ap (λ (x : ℕ). bit_or x 0) (and_byte (byte_at k old) (byte_at-below k old)) ∙ or_zero (byte_at k old))

one_within : (value first size k : ℕ) → k ≤ 3 →
    bit_and (merged_lane 0 value first size k) (merged_lane 0 (2 ^ 32 - 1) first size k)
    ≡ merged_lane 0 value first size k
one_within value first size k le = by_test (is_lane_of first size k)
  where
    by_test : (t : Bool) →
        bit_and (if t then byte_at (k - first) value else byte_at k 0)
        (if t then byte_at (k - first) (2 ^ 32 - 1) else byte_at k 0)
        ≡ (if t then byte_at (k - first) value else byte_at k 0)
    by_test true =
        ap (λ (m : ℕ). bit_and (byte_at (k - first) value) m) (ones_byte (k - first) (omega arith))
        ∙ and_byte (byte_at (k - first) value) (byte_at-below (k - first) value)
    by_test false = ap (λ (z : ℕ). bit_and z z) (zeros_byte k le) ∙ (zero_and 0 ∙ sym (zeros_byte k le))

-- ---- a merged word

pub merged_masked : (old value first size : ℕ) →
    merged old value first size ≡ masked old (merged 0 (2 ^ 32 - 1) first size) (merged 0 value first size)
merged_masked old value first size =
    let mask : ℕ → ℕ = merged_lane 0 (2 ^ 32 - 1) first size in
    let bits : ℕ → ℕ = merged_lane 0 value first size in
    let masks : AreBytes mask = merged_lane-below 0 (2 ^ 32 - 1) first size in
    let lanes = masked_word old mask bits masks (merged_lane-below 0 value first size) in
    let same =
    same_word (λ k. bit_or (bit_and (byte_at k old) (255 - mask k)) (bits k)) (merged_lane old value first size)
    (one_lane old value first size) in
    merged_word old value first size
    ∙ sym (ap (λ (x : ℕ). masked old x (merged 0 value first size)) (merged_word 0 (2 ^ 32 - 1) first size)
    ∙ (ap (λ (x : ℕ). masked old (word_of mask) x) (merged_word 0 value first size) ∙ (lanes ∙ same)))

pub bits_within : (value first size : ℕ) →
    bit_and (merged 0 value first size) (merged 0 (2 ^ 32 - 1) first size) ≡ merged 0 value first size
bits_within value first size =
    let mask : ℕ → ℕ = merged_lane 0 (2 ^ 32 - 1) first size in
    let bits : ℕ → ℕ = merged_lane 0 value first size in
    let lanes =
    and_words bits mask (merged_lane-below 0 value first size) (merged_lane-below 0 (2 ^ 32 - 1) first size) in
    let same = same_word (λ k. bit_and (bits k) (mask k)) bits (one_within value first size) in
    ap (λ (x : ℕ). bit_and x (merged 0 (2 ^ 32 - 1) first size)) (merged_word 0 value first size)
    ∙ (ap (λ (x : ℕ). bit_and (word_of bits) x) (merged_word 0 (2 ^ 32 - 1) first size)
    ∙ (lanes ∙ (same ∙ sym (merged_word 0 value first size))))
