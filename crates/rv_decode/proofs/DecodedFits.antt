-- What a word means is in its ranges.
use Rattle.std.proofs.Common.{◌≡◌, ℕ, Bool, true, false, cond, nat_eq, ◌%◌, ◌^◌, ◌<◌, arith, Option, Some, None, IfSome}
use Rattle.std.proofs.Common.{option_map, ℤ, pos}
use Rattle.std.proofs.lemmas.Bool.Decides.{nat_tests}
use Rattle.std.proofs.lemmas.Int.{ints}
use Rattle.rv_decode.specs.declared.op.Alu.{Alu}
use Rattle.rv_decode.specs.declared.op.Op.{Op}
use Rattle.rv_decode.specs.Atomics.{amo_of}
use Rattle.rv_decode.specs.Fields.{signed, opcode, funct3, funct5, funct7, rs2, immediate_i, immediate_s, immediate_b}
use Rattle.rv_decode.specs.Fields.{immediate_j}
use Rattle.rv_decode.specs.Ranges.{Fits, IsImmediate, IsShiftAmount, IsBranchOffset, IsJumpOffset, IsStored}
use Rattle.rv_decode.specs.Ranges.{IsAluImmediate}
use Rattle.rv_decode.specs.Table.{decoded, condition_of, loaded_width, stored_width, shift_of, immediate_alu}
use Rattle.rv_decode.specs.Table.{register_alu, jump_and_link_register, branch}
use Rattle.rv_decode.specs.Table.{load, store, constant_shift, alu_immediate, alu_register, atomic, fence, system}
use Rattle.rv_decode.proofs.BuiltFields.{field_below}

-- ---- immediates

signed_12 : (bits : ℕ) → bits < 2 ^ 12 → IsImmediate (signed 12 bits)
unfolding signed
signed_12 bits below = grind (arith, ints, nat_tests)

signed_13 : (bits : ℕ) → bits < 2 ^ 13 → bits % 2 ≡ 0 → IsBranchOffset (signed 13 bits)
unfolding signed
signed_13 bits below even = grind (arith, ints, nat_tests)

signed_21 : (bits : ℕ) → bits < 2 ^ 21 → bits % 2 ≡ 0 → IsJumpOffset (signed 21 bits)
unfolding signed
signed_21 bits below even = grind (arith, ints, nat_tests)

fits_i : (word : ℕ) → IsImmediate (immediate_i word)
fits_i word = signed_12 _ (field_below word 20 12)

fits_s : (word : ℕ) → IsImmediate (immediate_s word)
fits_s word = signed_12 _ (omega (arith, field_below word 7 5, field_below word 25 7))

fits_b : (word : ℕ) → IsBranchOffset (immediate_b word)
fits_b word =
    signed_13 _
    (omega (arith, field_below word 8 4, field_below word 25 6, field_below word 7 1, field_below word 31 1))
    (omega arith)

fits_j : (word : ℕ) → IsJumpOffset (immediate_j word)
fits_j word =
    signed_21 _
    (omega (arith, field_below word 21 10, field_below word 20 1, field_below word 12 8, field_below word 31 1))
    (omega arith)

-- ---- an instruction that is one of two, or made of what a smaller table has

chosen : {A : Type 0} (P : A → Type 0) (b : Bool) (x y : Option A) → IfSome x P → IfSome y P → IfSome (cond b x y) P
chosen P true x y px py = px
chosen P false x y px py = py

made : {A : Type 0} (P : A → Type 0) (o : Option A) (f : A → Op)
    → IfSome o P → ((a : A) → P a → Fits (f a)) → IfSome (option_map f o) Fits
made P None f known fits = tt
made P (Some a) f known fits = fits a known

anything : {A : Type 0} (o : Option A) → IfSome o (λ _. Unit {0})
anything None = tt
anything (Some a) = tt

stores : (code : ℕ) → IfSome (stored_width code) IsStored
stores code = chosen IsStored (nat_eq code 0) _ _ tt (chosen IsStored (nat_eq code 1) _ _ tt
    (chosen IsStored (nat_eq code 2) _ _ tt tt))

jalr_fits : (word : ℕ) → IfSome (jump_and_link_register word) Fits
unfolding jump_and_link_register
jalr_fits word = chosen Fits (nat_eq (funct3 word) 0) _ _ (field_below word 7 5, field_below word 15 5, fits_i word) tt

branch_fits : (word : ℕ) → IfSome (branch word) Fits
unfolding branch
branch_fits word =
    made (λ _. Unit {0}) (condition_of (funct3 word)) _ (anything (condition_of (funct3 word)))
    (λ cond known. (field_below word 15 5, field_below word 20 5, fits_b word))

load_fits : (word : ℕ) → IfSome (load word) Fits
unfolding load
load_fits word =
    made (λ _. Unit {0}) (loaded_width (funct3 word)) _ (anything (loaded_width (funct3 word)))
    (λ width known. (field_below word 7 5, field_below word 15 5, fits_i word))

store_fits : (word : ℕ) → IfSome (store word) Fits
unfolding store
store_fits word =
    made IsStored (stored_width (funct3 word)) _ (stores (funct3 word))
    (λ width known. (field_below word 15 5, field_below word 20 5, fits_s word, known))

-- the shifts take every amount of five bits
abbrev Shifts : Alu → Type 0
Shifts alu = (amount : ℕ) → amount < 2 ^ 5 → IsAluImmediate alu (pos amount)

amount_fits : (amount : ℕ) → amount < 2 ^ 5 → IsShiftAmount (pos amount)
amount_fits amount below = omega (arith, ints)

shifts : (code variant : ℕ) → IfSome (shift_of code variant) Shifts
shifts code variant =
    chosen Shifts (nat_eq code 1) _ _
    (chosen Shifts (nat_eq variant 0) _ _ amount_fits tt)
    (chosen Shifts (nat_eq code 5) _ _
    (chosen Shifts (nat_eq variant 0) _ _ amount_fits
    (chosen Shifts (nat_eq variant 0x20) _ _ amount_fits tt))
    tt)

shift_fits : (word : ℕ) → IfSome (constant_shift word) Fits
unfolding constant_shift
shift_fits word =
    made Shifts (shift_of (funct3 word) (funct7 word)) _ (shifts (funct3 word) (funct7 word))
    (λ alu known. (field_below word 7 5, field_below word 15 5, known (rs2 word) (field_below word 20 5)))

-- the others take every immediate of twelve bits
abbrev Takes : Alu → Type 0
Takes alu = (imm : ℤ) → IsImmediate imm → IsAluImmediate alu imm

takes : (code : ℕ) → IfSome (immediate_alu code) Takes
takes code =
    let every : (imm : ℤ) → IsImmediate imm → IsImmediate imm = λ imm fits. fits in
    chosen Takes (nat_eq code 0) _ _ every
    (chosen Takes (nat_eq code 2) _ _ every
    (chosen Takes (nat_eq code 3) _ _ every
    (chosen Takes (nat_eq code 4) _ _ every
    (chosen Takes (nat_eq code 6) _ _ every
    (chosen Takes (nat_eq code 7) _ _ every tt)))))

immediate_fits : (word : ℕ) → IfSome (alu_immediate word) Fits
unfolding alu_immediate
immediate_fits word =
    chosen Fits (nat_eq (funct3 word) 1) _ _ (shift_fits word)
    (chosen Fits (nat_eq (funct3 word) 5) _ _ (shift_fits word)
    (made Takes (immediate_alu (funct3 word)) _ (takes (funct3 word))
    (λ alu known. (field_below word 7 5, field_below word 15 5, known (immediate_i word) (fits_i word)))))

register_fits : (word : ℕ) → IfSome (alu_register word) Fits
unfolding alu_register
register_fits word =
    made (λ _. Unit {0}) (register_alu (funct3 word) (funct7 word)) _
    (anything (register_alu (funct3 word) (funct7 word)))
    (λ alu known. (field_below word 7 5, field_below word 15 5, field_below word 20 5))

atomic_fits : (word : ℕ) → IfSome (atomic word) Fits
unfolding atomic
atomic_fits word =
    chosen Fits (nat_eq (funct3 word) 2) _ _
    (made (λ _. Unit {0}) (amo_of (funct5 word)) _ (anything (amo_of (funct5 word)))
    (λ op known. (field_below word 7 5, field_below word 15 5, field_below word 20 5)))
    tt

fence_fits : (word : ℕ) → IfSome (fence word) Fits
unfolding fence
fence_fits word = chosen Fits (nat_eq (funct3 word) 0) _ _ tt tt

system_fits : (word : ℕ) → IfSome (system word) Fits
unfolding system
system_fits word =
    chosen Fits (nat_eq word 0x00000073) _ _ tt (chosen Fits (nat_eq word 0x00100073) _ _ tt tt)

pub in_range : (word : ℕ) → IfSome (decoded word) Fits
unfolding decoded
in_range word =
    let next = λ (code : ℕ) (x y : Option Op) (fits : IfSome x Fits) (rest : IfSome y Fits).
    chosen Fits (nat_eq (opcode word) code) x y fits rest in
    next 0x37 _ _ (field_below word 7 5, field_below word 12 20)
    (next 0x17 _ _ (field_below word 7 5, field_below word 12 20)
    (next 0x6F _ _ (field_below word 7 5, fits_j word)
    (next 0x67 _ _ (jalr_fits word)
    (next 0x63 _ _ (branch_fits word)
    (next 0x03 _ _ (load_fits word)
    (next 0x23 _ _ (store_fits word)
    (next 0x13 _ _ (immediate_fits word)
    (next 0x33 _ _ (register_fits word)
    (next 0x2F _ _ (atomic_fits word)
    (next 0x0F _ _ (fence_fits word)
    (next 0x73 _ _ (system_fits word) tt)))))))))))
