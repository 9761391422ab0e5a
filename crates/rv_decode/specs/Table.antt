-- Rule: which words are instructions: decoded
-- The table of RV32I and of the atomic memory operations of RV32A: which instruction a word is, by opcode,
-- then funct3, then funct7 or its upper five bits, in the order of the RISC-V Unprivileged ISA's listing of
-- chapter 24.
use Rattle.std.specs.Prelude.{ℕ, pos, ◌==◌, if◌then◌else◌, Option, Some, None, option_map, [], ◌∷◌}
use Rattle.std.specs.List.{find}
use Rattle.rv_decode.specs.declared.op.Cond.{Cond}
use Rattle.rv_decode.specs.declared.op.Cond.TheVariants.{Eq, Ne, Lt, Ge, Ltu, Geu}
use Rattle.rv_decode.specs.declared.op.Width.{Width}
use Rattle.rv_decode.specs.declared.op.Width.TheVariants.{Byte, Half, Word, ByteU, HalfU}
use Rattle.rv_decode.specs.declared.op.Alu.{Alu}
use Rattle.rv_decode.specs.declared.op.Alu.TheVariants.{Add, Sub, Sll, Slt, Sltu, Xor, Srl, Sra, Or, And}
use Rattle.rv_decode.specs.declared.op.Op.{Op}
use Rattle.rv_decode.specs.declared.op.Op.TheVariants.{Lui, Auipc, Jal, Jalr, Branch, Load, Store, AluImm}
use Rattle.rv_decode.specs.declared.op.Op.TheVariants.{AluReg, Amo, Fence, Ecall, Ebreak}
use Rattle.rv_decode.specs.Atomics.{amo_of}
use Rattle.rv_decode.specs.Fields.{opcode, rd, funct3, rs1, rs2, funct7, funct5, immediate_i, immediate_s, immediate_b}
use Rattle.rv_decode.specs.Fields.{immediate_j, upper}
use Rattle.rv_decode.specs.Words.{condition_code, width_code, alu_code}

-- BEQ, BNE, BLT, BGE, BLTU, BGEU, by funct3
abbrev pub condition_of : ℕ → Option Cond
condition_of funct3 = find (λ cond. funct3 == condition_code cond) (Eq ∷ Ne ∷ Lt ∷ Ge ∷ Ltu ∷ Geu ∷ [])

-- LB, LH, LW, LBU, LHU, by funct3
abbrev pub loaded_width : ℕ → Option Width
loaded_width funct3 = find (λ width. funct3 == width_code width) (Byte ∷ Half ∷ Word ∷ ByteU ∷ HalfU ∷ [])

-- SB, SH, SW, by funct3
abbrev pub stored_width : ℕ → Option Width
stored_width funct3 = find (λ width. funct3 == width_code width) (Byte ∷ Half ∷ Word ∷ [])

-- SLLI, SRLI, SRAI, by funct3 and funct7
abbrev pub shift_of : ℕ → ℕ → Option Alu
shift_of funct3 funct7 =
    if funct3 == 1 then (if funct7 == 0 then Some Sll else None)
    else if funct3 == 5 then
    (if funct7 == 0 then Some Srl else if funct7 == 0x20 then Some Sra else None)
    else None

-- ADDI, SLTI, SLTIU, XORI, ORI, ANDI, by funct3
abbrev pub immediate_alu : ℕ → Option Alu
immediate_alu funct3 = find (λ alu. funct3 == alu_code alu) (Add ∷ Slt ∷ Sltu ∷ Xor ∷ Or ∷ And ∷ [])

-- ADD, SLL, SLT, SLTU, XOR, SRL, OR, AND, by funct3
abbrev pub plain_alu : ℕ → Option Alu
plain_alu funct3 = find (λ alu. funct3 == alu_code alu) (Add ∷ Sll ∷ Slt ∷ Sltu ∷ Xor ∷ Srl ∷ Or ∷ And ∷ [])

-- those under funct7 0, and SUB and SRA under funct7 0x20
abbrev pub register_alu : ℕ → ℕ → Option Alu
register_alu funct3 funct7 =
    if funct7 == 0 then plain_alu funct3
    else if funct7 == 0x20 then
    (if funct3 == 0 then Some Sub else if funct3 == 5 then Some Sra else None)
    else None

-- opcode 0x67: JALR
unfoldable pub jump_and_link_register : ℕ → Option Op
jump_and_link_register word =
    if funct3 word == 0 then Some (Jalr (rd word) (rs1 word) (immediate_i word)) else None

-- opcode 0x63: the branches
unfoldable pub branch : ℕ → Option Op
branch word =
    option_map (λ cond. Branch cond (rs1 word) (rs2 word) (immediate_b word)) (condition_of (funct3 word))

-- opcode 0x03: the loads
unfoldable pub load : ℕ → Option Op
load word =
    option_map (λ width. Load width (rd word) (rs1 word) (immediate_i word)) (loaded_width (funct3 word))

-- opcode 0x23: the stores
unfoldable pub store : ℕ → Option Op
store word =
    option_map (λ width. Store width (rs1 word) (rs2 word) (immediate_s word)) (stored_width (funct3 word))

-- the shifts by a constant: bits 24..20 are the amount
unfoldable pub constant_shift : ℕ → Option Op
constant_shift word =
    option_map (λ alu. AluImm alu (rd word) (rs1 word) (pos (rs2 word))) (shift_of (funct3 word) (funct7 word))

-- opcode 0x13: register and immediate
unfoldable pub alu_immediate : ℕ → Option Op
alu_immediate word =
    if funct3 word == 1 then constant_shift word
    else if funct3 word == 5 then constant_shift word
    else option_map (λ alu. AluImm alu (rd word) (rs1 word) (immediate_i word)) (immediate_alu (funct3 word))

-- opcode 0x33: register and register
unfoldable pub alu_register : ℕ → Option Op
alu_register word =
    option_map (λ alu. AluReg alu (rd word) (rs1 word) (rs2 word)) (register_alu (funct3 word) (funct7 word))

-- opcode 0x2F: the atomic memory operations on a word, which have funct3 2. The bits aq and rl order an
-- operation among others; here each is ordered already, so they are ignored.
unfoldable pub atomic : ℕ → Option Op
atomic word =
    if funct3 word == 2 then option_map (λ op. Amo op (rd word) (rs1 word) (rs2 word)) (amo_of (funct5 word)) else None

-- opcode 0x0F: FENCE, its other bits ignored; FENCE.I has funct3 1
unfoldable pub fence : ℕ → Option Op
fence word = if funct3 word == 0 then Some Fence else None

-- opcode 0x73: only the two whole words
unfoldable pub system : ℕ → Option Op
system word =
    if word == 0x00000073 then Some Ecall
    else if word == 0x00100073 then Some Ebreak
    else None

-- the instruction that the word is, if it is one
unfoldable pub decoded : ℕ → Option Op
decoded word =
    if opcode word == 0x37 then Some (Lui (rd word) (upper word))
    else if opcode word == 0x17 then Some (Auipc (rd word) (upper word))
    else if opcode word == 0x6F then Some (Jal (rd word) (immediate_j word))
    else if opcode word == 0x67 then jump_and_link_register word
    else if opcode word == 0x63 then branch word
    else if opcode word == 0x03 then load word
    else if opcode word == 0x23 then store word
    else if opcode word == 0x13 then alu_immediate word
    else if opcode word == 0x33 then alu_register word
    else if opcode word == 0x2F then atomic word
    else if opcode word == 0x0F then fence word
    else if opcode word == 0x73 then system word
    else None
