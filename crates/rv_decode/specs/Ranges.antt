-- Which instructions have a word: the ranges of their registers and immediates.
use Rattle.std.specs.Prelude.{◌≡◌, ℕ, ◌^◌, ◌<◌, ℤ, pos, negsuc, ◌≤ℤ◌, int_rem, ⊤}
use Rattle.rv_decode.specs.declared.op.Width.{Width}
use Rattle.rv_decode.specs.declared.op.Width.TheVariants.{Byte, Half, Word, ByteU, HalfU}
use Rattle.rv_decode.specs.declared.op.Alu.{Alu}
use Rattle.rv_decode.specs.declared.op.Alu.TheVariants.{Add, Sub, Sll, Slt, Sltu, Xor, Srl, Sra, Or, And}
use Rattle.rv_decode.specs.declared.op.Op.{Op}
use Rattle.rv_decode.specs.declared.op.Op.TheVariants.{Lui, Auipc, Jal, Jalr, Branch, Load, Store, AluImm}
use Rattle.rv_decode.specs.declared.op.Op.TheVariants.{AluReg, Amo, Fence, Ecall, Ebreak}

-- x0 to x31
abbrev pub IsRegister : ℕ → Type 0
IsRegister number = number < 32

-- twenty bits
abbrev pub IsUpper : ℕ → Type 0
IsUpper upper = upper < 2 ^ 20

-- from -2048 to 2047, twelve bits with a sign
abbrev pub IsImmediate : ℤ → Type 0
IsImmediate imm = (negsuc 2047 ≤ℤ imm) × (imm ≤ℤ pos 2047)

abbrev pub IsShiftAmount : ℤ → Type 0
IsShiftAmount imm = (pos 0 ≤ℤ imm) × (imm ≤ℤ pos 31)

abbrev pub IsEven : ℤ → Type 0
IsEven offset = int_rem offset (pos 2) ≡ pos 0

-- even, from -4096 to 4094
abbrev pub IsBranchOffset : ℤ → Type 0
IsBranchOffset offset = IsEven offset × (negsuc 4095 ≤ℤ offset) × (offset ≤ℤ pos 4094)

-- even, from -1048576 to 1048574
abbrev pub IsJumpOffset : ℤ → Type 0
IsJumpOffset offset = IsEven offset × (negsuc 1048575 ≤ℤ offset) × (offset ≤ℤ pos 1048574)

-- a store has no sign to extend
abbrev pub IsStored : Width → Type 0
IsStored Byte = ⊤
IsStored Half = ⊤
IsStored Word = ⊤
IsStored ByteU = ⊥
IsStored HalfU = ⊥

-- the shifts take an amount, and SUBI is no instruction
abbrev pub IsAluImmediate : Alu → ℤ → Type 0
IsAluImmediate Add imm = IsImmediate imm
IsAluImmediate Sub imm = ⊥
IsAluImmediate Sll imm = IsShiftAmount imm
IsAluImmediate Slt imm = IsImmediate imm
IsAluImmediate Sltu imm = IsImmediate imm
IsAluImmediate Xor imm = IsImmediate imm
IsAluImmediate Srl imm = IsShiftAmount imm
IsAluImmediate Sra imm = IsShiftAmount imm
IsAluImmediate Or imm = IsImmediate imm
IsAluImmediate And imm = IsImmediate imm

abbrev pub Fits : Op → Type 0
Fits (Lui rd upper) = IsRegister rd × IsUpper upper
Fits (Auipc rd upper) = IsRegister rd × IsUpper upper
Fits (Jal rd offset) = IsRegister rd × IsJumpOffset offset
Fits (Jalr rd rs1 imm) = IsRegister rd × IsRegister rs1 × IsImmediate imm
Fits (Branch cond rs1 rs2 offset) = IsRegister rs1 × IsRegister rs2 × IsBranchOffset offset
Fits (Load width rd rs1 imm) = IsRegister rd × IsRegister rs1 × IsImmediate imm
Fits (Store width rs1 rs2 imm) = IsRegister rs1 × IsRegister rs2 × IsImmediate imm × IsStored width
Fits (AluImm alu rd rs1 imm) = IsRegister rd × IsRegister rs1 × IsAluImmediate alu imm
Fits (AluReg alu rd rs1 rs2) = IsRegister rd × IsRegister rs1 × IsRegister rs2
Fits (Amo op rd rs1 rs2) = IsRegister rd × IsRegister rs1 × IsRegister rs2
Fits Fence = ⊤
Fits Ecall = ⊤
Fits Ebreak = ⊤
