-- An instruction's word is read back as that instruction.
use Rattle.std.proofs.Common.{◌≡◌, ℕ, ◌*◌, ◌<◌, refl, arith, ap, sym, subst, ◌∙◌, Some, ℤ, pos, lit<, ◌==◌, false}
use Rattle.rv_decode.specs.declared.op.Cond.{Cond}
use Rattle.rv_decode.specs.declared.op.Cond.TheVariants.{Eq}
use Rattle.rv_decode.specs.declared.op.Width.{Width}
use Rattle.rv_decode.specs.declared.op.Width.TheVariants.{Byte, ByteU, HalfU}
use Rattle.rv_decode.specs.declared.op.Alu.{Alu}
use Rattle.rv_decode.specs.declared.op.Alu.TheVariants.{Add, Sub, Sll, Srl, Sra}
use Rattle.rv_decode.specs.declared.op.AmoOp.{AmoOp}
use Rattle.rv_decode.specs.declared.op.AmoOp.TheVariants as amo
use Rattle.rv_decode.specs.declared.op.Op.{Op}
use Rattle.rv_decode.specs.declared.op.Op.TheVariants.{Lui, Auipc, Jal, Jalr, Branch, Load, Store, AluImm, AluReg, Amo}
use Rattle.rv_decode.specs.declared.op.Op.TheVariants.{Fence, Ecall, Ebreak}
use Rattle.rv_decode.specs.Atomics.{amo_of, amo_code}
use Rattle.rv_decode.specs.Fields.{field, funct5, funct7, immediate_b, immediate_s}
use Rattle.rv_decode.specs.Ranges.{Fits, IsRegister, IsStored, IsAluImmediate}
use Rattle.rv_decode.specs.Table.{decoded, condition_of, loaded_width, stored_width, immediate_alu}
use Rattle.rv_decode.specs.Table.{register_alu}
use Rattle.rv_decode.specs.Table.{jump_and_link_register, branch, load, store, constant_shift}
use Rattle.rv_decode.specs.Table.{alu_immediate, alu_register, atomic, fence, system}
use Rattle.rv_decode.specs.Words.{bits_of, encoding, condition_code, width_code, alu_code, alu_variant}
use Rattle.rv_decode.specs.Words.{alu_immediate_word}
use Rattle.rv_decode.proofs.BuiltFields.{field_below, amount_whole, FieldsR, FieldsI, FieldsS, FieldsU}
use Rattle.rv_decode.proofs.BuiltFields.{FieldsJ, fields_r, fields_i, fields_s}
use Rattle.rv_decode.proofs.BuiltFields.{fields_b, fields_u, fields_j}

reads_lui : (word d u : ℕ) → FieldsU word 0x37 d u → decoded word ≡ Some (Lui d u)
unfolding decoded
reads_lui word d u at = simp (at.opcode_is, at.rd_is, at.upper_is)

reads_auipc : (word d u : ℕ) → FieldsU word 0x17 d u → decoded word ≡ Some (Auipc d u)
unfolding decoded
reads_auipc word d u at = simp (at.opcode_is, at.rd_is, at.upper_is)

reads_jal : (word d : ℕ) (offset : ℤ) → FieldsJ word 0x6F d offset → decoded word ≡ Some (Jal d offset)
unfolding decoded
reads_jal word d offset at = simp (at.opcode_is, at.rd_is, at.immediate_is)

reads_jalr : (word d a : ℕ) (imm : ℤ) → FieldsI word 0x67 0 d a imm → decoded word ≡ Some (Jalr d a imm)
unfolding decoded jump_and_link_register
reads_jalr word d a imm at = simp (at.opcode_is, at.funct3_is, at.rd_is, at.rs1_is, at.immediate_is)

-- ---- funct3 and funct7 name what they were written for

condition_known : (cond : Cond) → condition_of (condition_code cond) ≡ Some cond
condition_known Eq = refl
condition_known _ = refl

loaded_known : (width : Width) → loaded_width (width_code width) ≡ Some width
loaded_known Byte = refl
loaded_known _ = refl

stored_known : (width : Width) → IsStored width → stored_width (width_code width) ≡ Some width
stored_known ByteU stored = absurd stored
stored_known HalfU stored = absurd stored
stored_known _ stored = refl

register_known : (alu : Alu) → register_alu (alu_code alu) (alu_variant alu) ≡ Some alu
register_known Add = refl
register_known _ = refl

amo_known : (op : AmoOp) → amo_of (amo_code op) ≡ Some op
amo_known amo.Swap = refl
amo_known _ = refl

pub condition_small : (cond : Cond) → condition_code cond < 8
condition_small Eq = lit< tt
condition_small _ = lit< tt

pub width_small : (width : Width) → width_code width < 8
width_small Byte = lit< tt
width_small _ = lit< tt

pub alu_small : (alu : Alu) → (alu_code alu < 8) × (alu_variant alu < 128)
alu_small Add = (lit< tt, lit< tt)
alu_small _ = (lit< tt, lit< tt)

-- with aq and rl as 0 the number fills funct7
pub amo_small : (op : AmoOp) → amo_code op * 4 < 128
amo_small amo.Swap = lit< tt
amo_small _ = lit< tt

-- ---- the opcodes with a funct3

reads_branch : (word a b : ℕ) (cond : Cond) (offset : ℤ)
    → FieldsS immediate_b word 0x63 (condition_code cond) a b offset → decoded word ≡ Some (Branch cond a b offset)
unfolding decoded branch
reads_branch word a b cond offset at =
    simp (at.opcode_is, at.funct3_is, condition_known cond, at.rs1_is, at.rs2_is, at.immediate_is)

reads_load : (word d a : ℕ) (width : Width) (imm : ℤ)
    → FieldsI word 0x03 (width_code width) d a imm → decoded word ≡ Some (Load width d a imm)
unfolding decoded load
reads_load word d a width imm at =
    simp (at.opcode_is, at.funct3_is, loaded_known width, at.rd_is, at.rs1_is, at.immediate_is)

reads_store : (word a b : ℕ) (width : Width) (imm : ℤ) → IsStored width
    → FieldsS immediate_s word 0x23 (width_code width) a b imm → decoded word ≡ Some (Store width a b imm)
unfolding decoded store
reads_store word a b width imm stored at =
    simp (at.opcode_is, at.funct3_is, stored_known width stored, at.rs1_is, at.rs2_is, at.immediate_is)

reads_register : (word d a b : ℕ) (alu : Alu)
    → FieldsR word 0x33 (alu_code alu) (alu_variant alu) d a b → decoded word ≡ Some (AluReg alu d a b)
unfolding decoded alu_register
reads_register word d a b alu at =
    simp (at.opcode_is, at.funct3_is, at.funct7_is, register_known alu, at.rd_is, at.rs1_is, at.rs2_is)

-- funct5 is the upper five bits of funct7
upper_five : (word code : ℕ) → funct7 word ≡ code * 4 → funct5 word ≡ code
unfolding field
upper_five word code at = omega arith

reads_amo : (word d a b : ℕ) (op : AmoOp)
    → FieldsR word 0x2F 2 (amo_code op * 4) d a b → decoded word ≡ Some (Amo op d a b)
unfolding decoded atomic
reads_amo word d a b op at =
    simp (
      at.opcode_is,
      at.funct3_is,
      upper_five word (amo_code op) at.funct7_is,
      amo_known op,
      at.rd_is,
      at.rs1_is,
      at.rs2_is,
    )

-- ---- register and immediate

-- an instruction that is no shift
reads_plain : (word d a code : ℕ) (alu : Alu) (imm : ℤ) → code == 1 ≡ false → code == 5 ≡ false
    → immediate_alu code ≡ Some alu → FieldsI word 0x13 code d a imm → decoded word ≡ Some (AluImm alu d a imm)
unfolding decoded alu_immediate
reads_plain word d a code alu imm not_1 not_5 named at =
    simp (at.opcode_is, at.funct3_is, not_1, not_5, named, at.rd_is, at.rs1_is, at.immediate_is)

reads_sll : (word d a b : ℕ) → FieldsR word 0x13 1 0 d a b → decoded word ≡ Some (AluImm Sll d a (pos b))
unfolding decoded alu_immediate constant_shift
reads_sll word d a b at = simp (at.opcode_is, at.funct3_is, at.funct7_is, at.rd_is, at.rs1_is, at.rs2_is)

reads_srl : (word d a b : ℕ) → FieldsR word 0x13 5 0 d a b → decoded word ≡ Some (AluImm Srl d a (pos b))
unfolding decoded alu_immediate constant_shift
reads_srl word d a b at = simp (at.opcode_is, at.funct3_is, at.funct7_is, at.rd_is, at.rs1_is, at.rs2_is)

reads_sra : (word d a b : ℕ) → FieldsR word 0x13 5 0x20 d a b → decoded word ≡ Some (AluImm Sra d a (pos b))
unfolding decoded alu_immediate constant_shift
reads_sra word d a b at = simp (at.opcode_is, at.funct3_is, at.funct7_is, at.rd_is, at.rs1_is, at.rs2_is)

immediate_back : (alu : Alu) (d a : ℕ) (imm : ℤ) → IsRegister d → IsRegister a → IsAluImmediate alu imm
    → decoded (alu_immediate_word alu d a imm) ≡ Some (AluImm alu d a imm)
immediate_back Sub d a imm hd ha fits = absurd fits
immediate_back Sll d a imm hd ha fits =
    reads_sll _ d a _ (fields_r 0x13 1 0 d a _ (lit< tt) (lit< tt) (lit< tt) hd ha (field_below (bits_of imm) 0 5))
    ∙ ap (λ amount. Some (AluImm Sll d a amount)) (amount_whole imm fits)
immediate_back Srl d a imm hd ha fits =
    reads_srl _ d a _ (fields_r 0x13 5 0 d a _ (lit< tt) (lit< tt) (lit< tt) hd ha (field_below (bits_of imm) 0 5))
    ∙ ap (λ amount. Some (AluImm Srl d a amount)) (amount_whole imm fits)
immediate_back Sra d a imm hd ha fits =
    reads_sra _ d a _ (fields_r 0x13 5 0x20 d a _ (lit< tt) (lit< tt) (lit< tt) hd ha (field_below (bits_of imm) 0 5))
    ∙ ap (λ amount. Some (AluImm Sra d a amount)) (amount_whole imm fits)
immediate_back alu d a imm hd ha fits =
    reads_plain _ d a (alu_code alu) alu imm refl refl refl
    (fields_i 0x13 (alu_code alu) d a imm (lit< tt) (alu_small alu).0 hd ha fits)

-- ---- the whole words

fence_back : decoded 0x0FF0000F ≡ Some Fence
unfolding decoded fence field
fence_back = refl

ecall_back : decoded 0x00000073 ≡ Some Ecall
unfolding decoded system field
ecall_back = refl

ebreak_back : decoded 0x00100073 ≡ Some Ebreak
unfolding decoded system field
ebreak_back = refl

pub back : (op : Op) → Fits op → decoded (encoding op) ≡ Some op
unfolding encoding
back (Lui d u) fits = reads_lui _ d u (fields_u 0x37 d u (lit< tt) fits.0 fits.1)
back (Auipc d u) fits = reads_auipc _ d u (fields_u 0x17 d u (lit< tt) fits.0 fits.1)
back (Jal d offset) fits = reads_jal _ d offset (fields_j 0x6F d offset (lit< tt) fits.0 fits.1)
back (Jalr d a imm) fits = reads_jalr _ d a imm (fields_i 0x67 0 d a imm (lit< tt) (lit< tt) fits.0 fits.1 fits.2)
back (Branch cond a b offset) fits =
    reads_branch _ a b cond offset
    (fields_b 0x63 (condition_code cond) a b offset (lit< tt) (condition_small cond) fits.0 fits.1 fits.2)
back (Load width d a imm) fits =
    reads_load _ d a width imm
    (fields_i 0x03 (width_code width) d a imm (lit< tt) (width_small width) fits.0 fits.1 fits.2)
back (Store width a b imm) fits =
    reads_store _ a b width imm fits.3
    (fields_s 0x23 (width_code width) a b imm (lit< tt) (width_small width) fits.0 fits.1 fits.2)
back (AluImm alu d a imm) fits = immediate_back alu d a imm fits.0 fits.1 fits.2
back (AluReg alu d a b) fits =
    reads_register _ d a b alu
    (fields_r 0x33 (alu_code alu) (alu_variant alu) d a b (lit< tt) (alu_small alu).0 (alu_small alu).1 fits.0 fits.1
    fits.2)
back (Amo op d a b) fits =
    reads_amo _ d a b op
    (fields_r 0x2F 2 (amo_code op * 4) d a b (lit< tt) (lit< tt) (amo_small op) fits.0 fits.1 fits.2)
back Fence fits = fence_back
back Ecall fits = ecall_back
back Ebreak fits = ebreak_back

pub read_immediate : (op : Op) (alu : Alu) (d a : ℕ) (imm : ℤ) (word : ℕ) → op ≡ AluImm alu d a imm → Fits op
    → word ≡ alu_immediate_word alu d a imm → decoded word ≡ Some op
read_immediate op alu d a imm word is fits at =
    let here : Fits (AluImm alu d a imm) = subst Fits is fits in
    ap decoded at ∙ immediate_back alu d a imm here.0 here.1 here.2 ∙ ap (λ (o : Op). Some o) (sym is)
