-- Core and count name an instruction.
use Rattle.std.proofs.Common.{◌≡◌, ◌∙◌, ap, ℕ}
use Rattle.rtr_types.specs.declared.instr.Instr.{Instr}

abbrev instr_of : ℕ → ℕ → Instr
instr_of c n = record { core = c; count = n }

pub instr_eq : (x y : Instr) → x.core ≡ y.core → x.count ≡ y.count → x ≡ y
instr_eq x y p q = ap (λ (c : ℕ). instr_of c x.count) p ∙ ap (λ (n : ℕ). instr_of y.core n) q
