-- The fields of a word that a format built: each is what was put there.
use Rattle.std.proofs.Common.{◌≡◌, ℕ, ◌+◌, ◌*◌, ◌/◌, ◌%◌, ◌^◌, ◌<◌, arith, ap, ◌∙◌, mod-lt, ℤ, pos, negsuc}
use Rattle.std.proofs.lemmas.Bool.Decides.{nat_tests}
use Rattle.std.proofs.lemmas.Int.{ints}
use Rattle.std.proofs.lemmas.Nat.{pow_pos}
use Rattle.rv_decode.specs.Fields.{field, signed, opcode, rd, funct3, rs1, rs2, funct7, upper, immediate_i, immediate_s}
use Rattle.rv_decode.specs.Fields.{immediate_b, immediate_j}
use Rattle.rv_decode.specs.Ranges.{IsRegister, IsUpper, IsImmediate, IsShiftAmount, IsEven, IsBranchOffset}
use Rattle.rv_decode.specs.Ranges.{IsJumpOffset}
use Rattle.rv_decode.specs.Words.{bits_of, word_r, word_i, word_s, word_b, word_u, word_j}

-- ---- the parts of an immediate make up the immediate

pub field_below : (word low width : ℕ) → field word low width < 2 ^ width
unfolding field
field_below word low width = mod-lt (word / 2 ^ low) (pow_pos width)

immediate_whole : (imm : ℤ) → IsImmediate imm → signed 12 (field (bits_of imm) 0 12) ≡ imm
unfolding field signed
immediate_whole (pos n) fits = grind (arith, ints, nat_tests)
immediate_whole (negsuc n) fits = grind (arith, ints, nat_tests)

pub amount_whole : (amount : ℤ) → IsShiftAmount amount → pos (field (bits_of amount) 0 5) ≡ amount
unfolding field
amount_whole (pos n) fits = grind (arith, ints, nat_tests)
amount_whole (negsuc n) fits = grind (arith, ints, nat_tests)

even_bits : (offset : ℤ) → IsEven offset → bits_of offset % 2 ≡ 0
even_bits (pos n) even = grind (arith, ints, nat_tests)
even_bits (negsuc n) even = grind (arith, ints, nat_tests)

branch_whole : (offset : ℤ) → IsBranchOffset offset → signed 13 (field (bits_of offset) 0 13) ≡ offset
unfolding field signed
branch_whole (pos n) fits = grind (arith, ints, nat_tests)
branch_whole (negsuc n) fits = grind (arith, ints, nat_tests)

jump_whole : (offset : ℤ) → IsJumpOffset offset → signed 21 (field (bits_of offset) 0 21) ≡ offset
unfolding field signed
jump_whole (pos n) fits = grind (arith, ints, nat_tests)
jump_whole (negsuc n) fits = grind (arith, ints, nat_tests)

-- ---- R: every field

pub record FieldsR (word o f g d a b : ℕ) : Type 0 where
  pub opcode_is : opcode word ≡ o
  pub rd_is : rd word ≡ d
  pub funct3_is : funct3 word ≡ f
  pub rs1_is : rs1 word ≡ a
  pub rs2_is : rs2 word ≡ b
  pub funct7_is : funct7 word ≡ g

pub fields_r : (o f g d a b : ℕ) → o < 128 → f < 8 → g < 128 → IsRegister d → IsRegister a → b < 32
    → FieldsR (word_r o f g d a b) o f g d a b
unfolding field word_r
fields_r o f g d a b ho hf hg hd ha hb = record {
  opcode_is = omega arith;
  rd_is = omega arith;
  funct3_is = omega arith;
  rs1_is = omega arith;
  rs2_is = omega arith;
  funct7_is = omega arith;
}

-- ---- S and B: as R, with the bits of the immediate in the places of funct7 and rd

-- the places that S and B share, and the immediate that `read` reads
pub record FieldsS (read : ℕ → ℤ) (word o f a b : ℕ) (imm : ℤ) : Type 0 where
  pub opcode_is : opcode word ≡ o
  pub funct3_is : funct3 word ≡ f
  pub rs1_is : rs1 word ≡ a
  pub rs2_is : rs2 word ≡ b
  pub immediate_is : read word ≡ imm

with_immediate : (read : ℕ → ℤ) (word o f g d a b : ℕ) (imm : ℤ) → FieldsR word o f g d a b → read word ≡ imm
    → FieldsS read word o f a b imm
with_immediate read word o f g d a b imm at is =
    record {
      opcode_is = at.opcode_is;
      funct3_is = at.funct3_is;
      rs1_is = at.rs1_is;
      rs2_is = at.rs2_is;
      immediate_is = is;
    }

parts_s : (bits : ℕ) → field bits 0 5 + field bits 5 7 * 2 ^ 5 ≡ field bits 0 12
unfolding field
parts_s bits = omega arith

pub fields_s : (o f a b : ℕ) (imm : ℤ) → o < 128 → f < 8 → IsRegister a → IsRegister b
    → IsImmediate imm → FieldsS immediate_s (word_s o f a b imm) o f a b imm
unfolding word_s
fields_s o f a b imm ho hf ha hb fits =
    let bits = bits_of imm in
    let at = fields_r o f (field bits 5 7) (field bits 0 5) a b ho hf (field_below bits 5 7) (field_below bits 0 5)
    ha hb in
    let read : immediate_s (word_s o f a b imm) ≡ imm =
    ap (λ (low : ℕ). signed 12 (low + funct7 (word_s o f a b imm) * 2 ^ 5)) at.rd_is
    ∙ ap (λ (high : ℕ). signed 12 (field bits 0 5 + high * 2 ^ 5)) at.funct7_is
    ∙ ap (signed 12) (parts_s bits) ∙ immediate_whole imm fits in
    with_immediate immediate_s _ o f _ _ a b imm at read

bits_b : (o f a b : ℕ) (offset : ℤ) → o < 128 → f < 8 → IsRegister a → IsRegister b
    → bits_of offset % 2 ≡ 0
    → let word : ℕ = word_b o f a b offset in
    field word 8 4 * 2 + field word 25 6 * 2 ^ 5 + field word 7 1 * 2 ^ 11 + field word 31 1 * 2 ^ 12
    ≡ field (bits_of offset) 0 13
unfolding field word_b word_r
bits_b o f a b offset ho hf ha hb even = omega arith

pub fields_b : (o f a b : ℕ) (offset : ℤ) → o < 128 → f < 8 → IsRegister a → IsRegister b
    → IsBranchOffset offset → FieldsS immediate_b (word_b o f a b offset) o f a b offset
unfolding word_b
fields_b o f a b offset ho hf ha hb fits =
    let bits = bits_of offset in
    let high : field bits 5 6 + field bits 12 1 * 2 ^ 6 < 128 =
    omega (arith, field_below bits 5 6, field_below bits 12 1) in
    let low : field bits 11 1 + field bits 1 4 * 2 < 32 =
    omega (arith, field_below bits 11 1, field_below bits 1 4) in
    with_immediate immediate_b _ o f _ _ a b offset (fields_r o f _ _ a b ho hf high low ha hb)
    (ap (signed 13) (bits_b o f a b offset ho hf ha hb (even_bits offset fits.0)) ∙ branch_whole offset fits)

-- ---- I

pub record FieldsI (word o f d a : ℕ) (imm : ℤ) : Type 0 where
  pub opcode_is : opcode word ≡ o
  pub rd_is : rd word ≡ d
  pub funct3_is : funct3 word ≡ f
  pub rs1_is : rs1 word ≡ a
  pub immediate_is : immediate_i word ≡ imm

bits_i : (o f d a : ℕ) (imm : ℤ) → o < 128 → f < 8 → IsRegister d → IsRegister a
    → field (word_i o f d a imm) 20 12 ≡ field (bits_of imm) 0 12
unfolding field word_i
bits_i o f d a imm ho hf hd ha = omega arith

pub fields_i : (o f d a : ℕ) (imm : ℤ) → o < 128 → f < 8 → IsRegister d → IsRegister a
    → IsImmediate imm → FieldsI (word_i o f d a imm) o f d a imm
unfolding field word_i
fields_i o f d a imm ho hf hd ha fits = record {
  opcode_is = omega arith;
  rd_is = omega arith;
  funct3_is = omega arith;
  rs1_is = omega arith;
  immediate_is = ap (signed 12) (bits_i o f d a imm ho hf hd ha) ∙ immediate_whole imm fits;
}

-- ---- U

pub record FieldsU (word o d u : ℕ) : Type 0 where
  pub opcode_is : opcode word ≡ o
  pub rd_is : rd word ≡ d
  pub upper_is : upper word ≡ u

pub fields_u : (o d u : ℕ) → o < 128 → IsRegister d → IsUpper u → FieldsU (word_u o d u) o d u
unfolding field word_u
fields_u o d u ho hd hu = record {
  opcode_is = omega arith;
  rd_is = omega arith;
  upper_is = omega arith;
}

-- ---- J: as U, with the bits of the offset in the place of the upper twenty

pub record FieldsJ (word o d : ℕ) (offset : ℤ) : Type 0 where
  pub opcode_is : opcode word ≡ o
  pub rd_is : rd word ≡ d
  pub immediate_is : immediate_j word ≡ offset

bits_j : (o d : ℕ) (offset : ℤ) → o < 128 → IsRegister d → bits_of offset % 2 ≡ 0
    → let word : ℕ = word_j o d offset in
    field word 21 10 * 2 + field word 20 1 * 2 ^ 11 + field word 12 8 * 2 ^ 12 + field word 31 1 * 2 ^ 20
    ≡ field (bits_of offset) 0 21
unfolding field word_j word_u
bits_j o d offset ho hd even = omega arith

pub fields_j : (o d : ℕ) (offset : ℤ) → o < 128 → IsRegister d → IsJumpOffset offset
    → FieldsJ (word_j o d offset) o d offset
unfolding field word_j word_u
fields_j o d offset ho hd fits = record {
  opcode_is = omega arith;
  rd_is = omega arith;
  immediate_is =
      ap (signed 21) (bits_j o d offset ho hd (even_bits offset fits.0)) ∙ jump_whole offset fits;
}
