-- The word of an instruction that fits has 32 bits.
use Rattle.std.proofs.Common.{ℕ, ◌+◌, ◌*◌, ◌^◌, ◌<◌, ℤ, arith, lit<, Bool, true, false, cond}
use Rattle.rv_decode.specs.declared.op.Alu.{Alu}
use Rattle.rv_decode.specs.declared.op.Op.{Op}
use Rattle.rv_decode.specs.declared.op.Op.TheVariants.{Lui, Auipc, Jal, Jalr, Branch, Load, Store, AluImm, AluReg, Amo}
use Rattle.rv_decode.specs.declared.op.Op.TheVariants.{Fence, Ecall, Ebreak}
use Rattle.rv_decode.specs.Atomics.{amo_code}
use Rattle.rv_decode.specs.Fields.{field}
use Rattle.rv_decode.specs.Ranges.{Fits, IsRegister, IsUpper}
use Rattle.rv_decode.specs.Words.{encoding, bits_of, word_r, word_i, word_s, word_b, word_u}
use Rattle.rv_decode.specs.Words.{word_j, condition_code, width_code, alu_code, alu_variant, is_shift}
use Rattle.rv_decode.specs.Words.{alu_immediate_word}
use Rattle.rv_decode.proofs.RoundTrip.{alu_small, amo_small, condition_small, width_small}
use Rattle.rv_decode.proofs.BuiltFields.{field_below}

r_below : (o f g d a b : ℕ) → o < 128 → f < 8 → g < 128 → IsRegister d → IsRegister a → b < 32 →
    word_r o f g d a b < 2 ^ 32
unfolding word_r
r_below o f g d a b po pf pg pd pa pb = omega arith

i_below : (o f d a : ℕ) (imm : ℤ) → o < 128 → f < 8 → IsRegister d → IsRegister a → word_i o f d a imm < 2 ^ 32
unfolding word_i
i_below o f d a imm po pf pd pa =
    let m : field (bits_of imm) 0 12 < 4096 = field_below (bits_of imm) 0 12 in
    omega arith

s_below : (o f a b : ℕ) (imm : ℤ) → o < 128 → f < 8 → IsRegister a → IsRegister b → word_s o f a b imm < 2 ^ 32
unfolding word_s
s_below o f a b imm po pf pa pb =
    r_below o f _ _ a b po pf (field_below (bits_of imm) 5 7) (field_below (bits_of imm) 0 5) pa pb

b_below : (o f a b : ℕ) (offset : ℤ) → o < 128 → f < 8 → IsRegister a → IsRegister b → word_b o f a b offset < 2 ^ 32
unfolding word_b
b_below o f a b offset po pf pa pb =
    let bits = bits_of offset in
    let high : field bits 5 6 + field bits 12 1 * 2 ^ 6 < 128 =
    omega (arith, field_below bits 5 6, field_below bits 12 1) in
    let low : field bits 11 1 + field bits 1 4 * 2 < 32 =
    omega (arith, field_below bits 11 1, field_below bits 1 4) in
    r_below o f _ _ a b po pf high low pa pb

u_below : (o d u : ℕ) → o < 128 → IsRegister d → IsUpper u → word_u o d u < 2 ^ 32
unfolding word_u
u_below o d u po pd pu = omega arith

j_below : (o d : ℕ) (offset : ℤ) → o < 128 → IsRegister d → word_j o d offset < 2 ^ 32
unfolding word_j
j_below o d offset po pd =
    let bits = bits_of offset in
    u_below o d _ po pd
    (omega (arith, field_below bits 12 8, field_below bits 11 1, field_below bits 1 10, field_below bits 20 1))

chosen : (m n : ℕ) (b : Bool) → m < 2 ^ 32 → n < 2 ^ 32 → cond b m n < 2 ^ 32
chosen m n true p q = p
chosen m n false p q = q

immediate_below : (alu : Alu) (d a : ℕ) (imm : ℤ) → IsRegister d → IsRegister a →
    alu_immediate_word alu d a imm < 2 ^ 32
immediate_below alu d a imm pd pa =
    let amount : field (bits_of imm) 0 5 < 32 = field_below (bits_of imm) 0 5 in
    let shift : word_r 0x13 (alu_code alu) (alu_variant alu) d a (field (bits_of imm) 0 5) < 2 ^ 32 =
    r_below 0x13 (alu_code alu) (alu_variant alu) d a (field (bits_of imm) 0 5) (lit< tt) (alu_small alu).0
    (alu_small alu).1 pd pa amount in
    let plain : word_i 0x13 (alu_code alu) d a imm < 2 ^ 32 =
    i_below 0x13 (alu_code alu) d a imm (lit< tt) (alu_small alu).0 pd pa in
    chosen _ _ (is_shift alu) shift plain

pub word_below : (op : Op) → Fits op → encoding op < 2 ^ 32
unfolding encoding
word_below (Lui d u) fits = u_below 0x37 d u (lit< tt) fits.0 fits.1
word_below (Auipc d u) fits = u_below 0x17 d u (lit< tt) fits.0 fits.1
word_below (Jal d offset) fits = j_below 0x6F d offset (lit< tt) fits.0
word_below (Jalr d a imm) fits = i_below 0x67 0 d a imm (lit< tt) (lit< tt) fits.0 fits.1
word_below (Branch cond a b offset) fits = b_below 0x63 (condition_code cond) a b offset (lit< tt)
    (condition_small cond) fits.0 fits.1
word_below (Load width d a imm) fits = i_below 0x03 (width_code width) d a imm (lit< tt) (width_small width) fits.0
    fits.1
word_below (Store width a b imm) fits = s_below 0x23 (width_code width) a b imm (lit< tt) (width_small width) fits.0
    fits.1
word_below (AluImm alu d a imm) fits = immediate_below alu d a imm fits.0 fits.1
word_below (AluReg alu d a b) fits = r_below 0x33 (alu_code alu) (alu_variant alu) d a b (lit< tt) (alu_small alu).0
    (alu_small alu).1 fits.0 fits.1 fits.2
word_below (Amo op d a b) fits = r_below 0x2F 2 (amo_code op * 4) d a b (lit< tt) (lit< tt) (amo_small op) fits.0 fits.1
    fits.2
word_below Fence fits = lit< tt
word_below Ecall fits = lit< tt
word_below Ebreak fits = lit< tt
