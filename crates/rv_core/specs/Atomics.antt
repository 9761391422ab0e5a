-- What the atomic memory operations leave in their word, by the RISC-V Unprivileged ISA, section 8.4.
use Rattle.std.specs.Prelude.{ℕ, ◌+◌, ◌%◌, ◌^◌, nat_lt, int_lt, if◌then◌else◌, bit_and, bit_or, bit_xor}
use Rattle.rv_decode.specs.declared.op.AmoOp.{AmoOp}
use Rattle.rv_decode.specs.declared.op.AmoOp.TheVariants.{Swap, Add, Xor, And, Or, Min, Max, Minu, Maxu}
use Rattle.rv_core.specs.Operations.{signed}

-- the word's old value combined with a register's
abbrev pub combined : AmoOp → (old value : ℕ) → ℕ
combined Swap old value = value
combined Add old value = old + value
combined Xor old value = bit_xor old value
combined And old value = bit_and old value
combined Or old value = bit_or old value
combined Min old value = if int_lt (signed old) (signed value) then old else value
combined Max old value = if int_lt (signed old) (signed value) then value else old
combined Minu old value = if nat_lt old value then old else value
combined Maxu old value = if nat_lt old value then value else old

-- the 32 bits of it that the word takes
unfoldable pub exchanged : AmoOp → (old value : ℕ) → ℕ
exchanged op old value = combined op old value % 2 ^ 32
