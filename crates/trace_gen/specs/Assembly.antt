-- The instructions that the programs are made of, written as an assembler writes them: the register that is written,
-- or stored, comes first, and of a load or store the offset stands before the register that it is added to.
use Rattle.std.specs.Prelude.{ℕ, ℤ, pos, ◌-ℤ◌}
use Rattle.rv_decode.specs.declared.op.Cond.TheVariants.{Eq, Ne}
use Rattle.rv_decode.specs.declared.op.Width.TheVariants.{Byte, Word}
use Rattle.rv_decode.specs.declared.op.Alu.TheVariants.{Add, Sll, Xor}
use Rattle.rv_decode.specs.declared.op.Op.{Op}
use Rattle.rv_decode.specs.declared.op.Op.TheVariants.{AluImm, Branch, Load, Store}

abbrev pub addi : (rd rs1 : ℕ) → ℤ → Op
addi rd rs1 imm = AluImm Add rd rs1 imm

abbrev pub xori : (rd rs1 : ℕ) → ℤ → Op
xori rd rs1 imm = AluImm Xor rd rs1 imm

abbrev pub slli : (rd rs1 : ℕ) → ℤ → Op
slli rd rs1 amount = AluImm Sll rd rs1 amount

abbrev pub lw : (rd : ℕ) → ℤ → (rs1 : ℕ) → Op
lw rd offset rs1 = Load Word rd rs1 offset

abbrev pub sw : (rs2 : ℕ) → ℤ → (rs1 : ℕ) → Op
sw rs2 offset rs1 = Store Word rs1 rs2 offset

abbrev pub sb : (rs2 : ℕ) → ℤ → (rs1 : ℕ) → Op
sb rs2 offset rs1 = Store Byte rs1 rs2 offset

-- where the two registers are equal, and where they differ; the offset counts from the branch itself
abbrev pub beq : (rs1 rs2 : ℕ) → ℤ → Op
beq rs1 rs2 offset = Branch Eq rs1 rs2 offset

abbrev pub bne : (rs1 rs2 : ℕ) → ℤ → Op
bne rs1 rs2 offset = Branch Ne rs1 rs2 offset

abbrev pub minus : ℕ → ℤ
minus n = pos 0 -ℤ pos n

abbrev pub x0 : ℕ
x0 = 0

abbrev pub x5 : ℕ
x5 = 5

abbrev pub x6 : ℕ
x6 = 6

abbrev pub x7 : ℕ
x7 = 7

abbrev pub x8 : ℕ
x8 = 8

abbrev pub x9 : ℕ
x9 = 9

-- the core's number, as it starts
abbrev pub x10 : ℕ
x10 = 10

abbrev pub x11 : ℕ
x11 = 11

abbrev pub x12 : ℕ
x12 = 12

abbrev pub x13 : ℕ
x13 = 13
