-- The nine atomic memory operations on a word, by the RISC-V Unprivileged ISA, section 8.4, and the number
-- that each has in bits 31..27.
use Rattle.std.specs.Prelude.{ℕ, ◌==◌, Option, [], ◌∷◌}
use Rattle.std.specs.List.{find}
use Rattle.rv_decode.specs.declared.op.AmoOp.{AmoOp}
use Rattle.rv_decode.specs.declared.op.AmoOp.TheVariants.{Swap, Add, Xor, And, Or, Min, Max, Minu, Maxu}

-- funct5
abbrev pub amo_code : AmoOp → ℕ
amo_code = elim
    [ Swap ↦ 1 | Add ↦ 0 | Xor ↦ 4 | And ↦ 12 | Or ↦ 8 | Min ↦ 16 | Max ↦ 20 | Minu ↦ 24 | Maxu ↦ 28 ]

-- AMOSWAP, AMOADD, AMOXOR, AMOAND, AMOOR, AMOMIN, AMOMAX, AMOMINU, AMOMAXU, by funct5. LR and SC have 2 and 3.
abbrev pub amo_of : ℕ → Option AmoOp
amo_of funct5 =
    find (λ op. funct5 == amo_code op) (Swap ∷ Add ∷ Xor ∷ And ∷ Or ∷ Min ∷ Max ∷ Minu ∷ Maxu ∷ [])
