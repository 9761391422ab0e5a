-- The fields of an instruction word, and the immediates that they make up, by the formats R, I, S, B, U
-- and J of the RISC-V Unprivileged ISA, sections 2.2 and 2.3.
use Rattle.std.specs.Prelude.{ℕ, ℤ, pos, negsuc, ◌+◌, ◌-◌, ◌*◌, ◌/◌, ◌%◌, ◌^◌, nat_lt, if◌then◌else◌}

-- `width` bits of the word, from bit `low` up
unfoldable pub field : ℕ → ℕ → ℕ → ℕ
field word low width = word / 2 ^ low % 2 ^ width

-- the number that stands in `width` bits as two's complement, the highest bit being its sign
unfoldable pub signed : ℕ → ℕ → ℤ
signed width bits =
    if nat_lt bits (2 ^ (width - 1)) then pos bits else negsuc (2 ^ width - 1 - bits)

abbrev pub opcode : ℕ → ℕ
opcode word = field word 0 7

abbrev pub funct3 : ℕ → ℕ
funct3 word = field word 12 3

abbrev pub funct7 : ℕ → ℕ
funct7 word = field word 25 7

-- which atomic memory operation: the upper five bits of funct7, above the bits aq and rl
abbrev pub funct5 : ℕ → ℕ
funct5 word = field (funct7 word) 2 5

-- the number of a register, from bit `low` up
abbrev pub register : ℕ → ℕ → ℕ
register word low = field word low 5

abbrev pub rd : ℕ → ℕ
rd word = register word 7

abbrev pub rs1 : ℕ → ℕ
rs1 word = register word 15

abbrev pub rs2 : ℕ → ℕ
rs2 word = register word 20

-- I: bits 31..20 are 11..0
abbrev pub immediate_i : ℕ → ℤ
immediate_i word = signed 12 (field word 20 12)

-- S: bits 31..25 are 11..5, bits 11..7 are 4..0
abbrev pub immediate_s : ℕ → ℤ
immediate_s word = signed 12 (field word 7 5 + field word 25 7 * 2 ^ 5)

-- B: bit 31 is 12, bit 7 is 11, bits 30..25 are 10..5, bits 11..8 are 4..1, and bit 0 is 0
abbrev pub immediate_b : ℕ → ℤ
immediate_b word =
    signed 13 (field word 8 4 * 2 + field word 25 6 * 2 ^ 5 + field word 7 1 * 2 ^ 11 + field word 31 1 * 2 ^ 12)

-- U: bits 31..12 are 31..12; these twenty bits alone, not yet times 4096
abbrev pub upper : ℕ → ℕ
upper word = field word 12 20

-- J: bit 31 is 20, bits 19..12 are 19..12, bit 20 is 11, bits 30..21 are 10..1, and bit 0 is 0
abbrev pub immediate_j : ℕ → ℤ
immediate_j word =
    signed 21 (field word 21 10 * 2 + field word 20 1 * 2 ^ 11 + field word 12 8 * 2 ^ 12 + field word 31 1 * 2 ^ 20)
