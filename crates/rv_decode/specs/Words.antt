-- The word of an instruction, by the formats R, I, S, B, U and J of the RISC-V Unprivileged ISA,
-- sections 2.2 and 2.3.
use Rattle.std.specs.Prelude.{ℕ, ℤ, ◌+◌, ◌*◌, ◌^◌, Bool, true, false, if◌then◌else◌}
use Rattle.std.specs.Int.{cast_unsigned, w32}
use Rattle.rv_decode.specs.declared.op.Cond.{Cond}
use Rattle.rv_decode.specs.declared.op.Cond.TheVariants.{Eq, Ne, Lt, Ge, Ltu, Geu}
use Rattle.rv_decode.specs.declared.op.Width.{Width}
use Rattle.rv_decode.specs.declared.op.Width.TheVariants.{Byte, Half, Word, ByteU, HalfU}
use Rattle.rv_decode.specs.declared.op.Alu.{Alu}
use Rattle.rv_decode.specs.declared.op.Alu.TheVariants.{Add, Sub, Sll, Slt, Sltu, Xor, Srl, Sra, Or, And}
use Rattle.rv_decode.specs.declared.op.Op.{Op}
use Rattle.rv_decode.specs.declared.op.Op.TheVariants.{Lui, Auipc, Jal, Jalr, Branch, Load, Store, AluImm}
use Rattle.rv_decode.specs.declared.op.Op.TheVariants.{AluReg, Amo, Fence, Ecall, Ebreak}
use Rattle.rv_decode.specs.Atomics.{amo_code}
use Rattle.rv_decode.specs.Fields.{field}

-- the 32 bits of a signed number as two's complement
abbrev pub bits_of : ℤ → ℕ
bits_of number = cast_unsigned w32 number

-- funct7, rs2, rs1, funct3, rd, opcode
unfoldable pub word_r : (opcode funct3 funct7 rd rs1 rs2 : ℕ) → ℕ
word_r opcode funct3 funct7 rd rs1 rs2 =
    opcode + rd * 2 ^ 7 + funct3 * 2 ^ 12 + rs1 * 2 ^ 15 + rs2 * 2 ^ 20 + funct7 * 2 ^ 25

-- the immediate's bits 11..0, rs1, funct3, rd, opcode
unfoldable pub word_i : (opcode funct3 rd rs1 : ℕ) → ℤ → ℕ
word_i opcode funct3 rd rs1 imm =
    opcode + rd * 2 ^ 7 + funct3 * 2 ^ 12 + rs1 * 2 ^ 15 + field (bits_of imm) 0 12 * 2 ^ 20

-- the immediate's bits 11..5, rs2, rs1, funct3, its bits 4..0, opcode: these bits stand in the places of funct7 and rd
unfoldable pub word_s : (opcode funct3 rs1 rs2 : ℕ) → ℤ → ℕ
word_s opcode funct3 rs1 rs2 imm =
    word_r opcode funct3 (field (bits_of imm) 5 7) (field (bits_of imm) 0 5) rs1 rs2

-- the offset's bits 12 and 10..5, rs2, rs1, funct3, its bits 4..1 and 11, opcode
unfoldable pub word_b : (opcode funct3 rs1 rs2 : ℕ) → ℤ → ℕ
word_b opcode funct3 rs1 rs2 offset =
    let high = field (bits_of offset) 5 6 + field (bits_of offset) 12 1 * 2 ^ 6 in
    let low = field (bits_of offset) 11 1 + field (bits_of offset) 1 4 * 2 in
    word_r opcode funct3 high low rs1 rs2

-- the immediate's twenty bits 31..12, rd, opcode
unfoldable pub word_u : (opcode rd upper : ℕ) → ℕ
word_u opcode rd upper = opcode + rd * 2 ^ 7 + upper * 2 ^ 12

-- the offset's bits 20, 10..1, 11 and 19..12, rd, opcode
unfoldable pub word_j : (opcode rd : ℕ) → ℤ → ℕ
word_j opcode rd offset =
    let low = field (bits_of offset) 12 8 + field (bits_of offset) 11 1 * 2 ^ 8 in
    let high = field (bits_of offset) 1 10 * 2 ^ 9 + field (bits_of offset) 20 1 * 2 ^ 19 in
    word_u opcode rd (low + high)

abbrev pub condition_code : Cond → ℕ
condition_code = elim [ Eq ↦ 0 | Ne ↦ 1 | Lt ↦ 4 | Ge ↦ 5 | Ltu ↦ 6 | Geu ↦ 7 ]

abbrev pub width_code : Width → ℕ
width_code = elim [ Byte ↦ 0 | Half ↦ 1 | Word ↦ 2 | ByteU ↦ 4 | HalfU ↦ 5 ]

-- funct3
abbrev pub alu_code : Alu → ℕ
alu_code = elim
    [ Add ↦ 0 | Sub ↦ 0 | Sll ↦ 1 | Slt ↦ 2 | Sltu ↦ 3 | Xor ↦ 4 | Srl ↦ 5 | Sra ↦ 5 | Or ↦ 6 | And ↦ 7 ]

-- funct7
abbrev pub alu_variant : Alu → ℕ
alu_variant Sub = 0x20
alu_variant Sra = 0x20
alu_variant _ = 0

abbrev pub is_shift : Alu → Bool
is_shift Sll = true
is_shift Srl = true
is_shift Sra = true
is_shift _ = false

-- register and immediate; SLLI, SRLI and SRAI have funct7, and the amount in the place of rs2
abbrev pub alu_immediate_word : Alu → (rd rs1 : ℕ) → ℤ → ℕ
alu_immediate_word alu rd rs1 imm =
    if is_shift alu
    then word_r 0x13 (alu_code alu) (alu_variant alu) rd rs1 (field (bits_of imm) 0 5)
    else word_i 0x13 (alu_code alu) rd rs1 imm

-- FENCE is the one that orders all before it with all after it. An atomic memory operation has the bits aq and
-- rl, the lower two of funct7, as 0.
unfoldable pub encoding : Op → ℕ
encoding (Lui rd upper) = word_u 0x37 rd upper
encoding (Auipc rd upper) = word_u 0x17 rd upper
encoding (Jal rd offset) = word_j 0x6F rd offset
encoding (Jalr rd rs1 imm) = word_i 0x67 0 rd rs1 imm
encoding (Branch cond rs1 rs2 offset) = word_b 0x63 (condition_code cond) rs1 rs2 offset
encoding (Load width rd rs1 imm) = word_i 0x03 (width_code width) rd rs1 imm
encoding (Store width rs1 rs2 imm) = word_s 0x23 (width_code width) rs1 rs2 imm
encoding (AluImm alu rd rs1 imm) = alu_immediate_word alu rd rs1 imm
encoding (AluReg alu rd rs1 rs2) = word_r 0x33 (alu_code alu) (alu_variant alu) rd rs1 rs2
encoding (Amo op rd rs1 rs2) = word_r 0x2F 2 (amo_code op * 4) rd rs1 rs2
encoding Fence = 0x0FF0000F
encoding Ecall = 0x00000073
encoding Ebreak = 0x00100073
