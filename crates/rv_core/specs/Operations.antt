-- What RV32I's instructions compute of their operands, by the RISC-V Unprivileged ISA, sections 2.4 to
-- 2.6. A register's value is its 32 bits, as a number below 2 ^ 32.
use Rattle.std.specs.Prelude.{ℕ, ℤ, ◌+◌, ◌-◌, ◌*◌, ◌/◌, ◌%◌, ◌^◌, Bool, not, ◌==◌, nat_lt, nat_le, int_lt}
use Rattle.std.specs.Prelude.{if◌then◌else◌, bit_and, bit_or, bit_xor}
use Rattle.std.specs.Int.{w8, w16, w32, cast_signed, cast_unsigned, int_shr}
use Rattle.rv_decode.specs.declared.op.Alu.{Alu}
use Rattle.rv_decode.specs.declared.op.Alu.TheVariants.{Add, Sub, Sll, Slt, Sltu, Xor, Srl, Sra, Or, And}
use Rattle.rv_decode.specs.declared.op.Cond.{Cond}
use Rattle.rv_decode.specs.declared.op.Cond.TheVariants.{Eq, Ne, Lt, Ge, Ltu, Geu}
use Rattle.rv_decode.specs.declared.op.Width.{Width}
use Rattle.rv_decode.specs.declared.op.Width.TheVariants.{Byte, Half, Word, ByteU, HalfU}

-- the 32 bits of a signed number, and the signed number that 32 bits are, as two's complement
abbrev pub bits_of : ℤ → ℕ
bits_of z = cast_unsigned w32 z

abbrev pub signed : ℕ → ℤ
signed bits = cast_signed w32 bits

-- a sum and a difference that wrap at 32 bits
abbrev pub wrapped_sum : ℕ → ℕ → ℕ
wrapped_sum a b = (a + b) % 2 ^ 32

abbrev pub wrapped_difference : ℕ → ℕ → ℕ
wrapped_difference a b = (a + (2 ^ 32 - b)) % 2 ^ 32

-- a test as a number
abbrev pub one_if : Bool → ℕ
one_if test = if test then 1 else 0

-- an arithmetic or logical instruction's result; shifts go by the low five bits of the second operand
unfoldable pub computed : Alu → ℕ → ℕ → ℕ
computed Add a b = wrapped_sum a b
computed Sub a b = wrapped_difference a b
computed Sll a b = a * 2 ^ (b % 32) % 2 ^ 32
computed Slt a b = one_if (int_lt (signed a) (signed b))
computed Sltu a b = one_if (nat_lt a b)
computed Xor a b = bit_xor a b
computed Srl a b = a / 2 ^ (b % 32)
computed Sra a b = bits_of (int_shr (signed a) (b % 32))
computed Or a b = bit_or a b
computed And a b = bit_and a b

-- LUI's value: the upper twenty bits, over twelve zeros
abbrev pub upper_value : ℕ → ℕ
upper_value upper = upper * 2 ^ 12 % 2 ^ 32

-- a branch is taken
unfoldable pub is_taken : Cond → ℕ → ℕ → Bool
is_taken Eq a b = a == b
is_taken Ne a b = not (a == b)
is_taken Lt a b = int_lt (signed a) (signed b)
is_taken Ge a b = not (int_lt (signed a) (signed b))
is_taken Ltu a b = nat_lt a b
is_taken Geu a b = nat_le b a

-- an address moved by a signed offset
unfoldable pub moved : ℕ → ℤ → ℕ
moved address offset = wrapped_sum address (bits_of offset)

-- an address with bit 0 cleared
unfoldable pub without_low_bit : ℕ → ℕ
without_low_bit address = address / 2 * 2

-- how many bytes a load or store moves
abbrev pub size_of : Width → ℕ
size_of = elim [ Byte ↦ 1 | Half ↦ 2 | Word ↦ 4 | ByteU ↦ 1 | HalfU ↦ 2 ]

-- the byte, and the halfword, of a word from a lane on
abbrev pub byte_in : ℕ → ℕ → ℕ
byte_in word lane = word / 2 ^ (8 * lane) % 2 ^ 8

abbrev pub half_in : ℕ → ℕ → ℕ
half_in word lane = word / 2 ^ (8 * lane) % 2 ^ 16

-- what a load takes from its word, at the lane where it begins
unfoldable pub loaded : Width → (word lane : ℕ) → ℕ
loaded Byte word lane = bits_of (cast_signed w8 (byte_in word lane))
loaded Half word lane = bits_of (cast_signed w16 (half_in word lane))
loaded Word word lane = word
loaded ByteU word lane = byte_in word lane
loaded HalfU word lane = half_in word lane
