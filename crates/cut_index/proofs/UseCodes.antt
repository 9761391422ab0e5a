-- The number of an access stands for it.
use Rattle.std.proofs.Common.{◌≡◌, ◌∙◌, ℕ, ◌+◌, ◌*◌, ◌/◌, ◌%◌, refl, ap, arith}
use Rattle.std.specs.Prelude.{None, Some}
use Rattle.rtr_types.specs.declared.access.Kind.TheVariants.{Load, Store, Amo}
use Rattle.replay_core.specs.Play.{Use}
use Rattle.cut_index.specs.Touches.{code_of, used_by, used_of}

by_parts : (code digit word : ℕ) → code % 4 ≡ digit → code / 4 ≡ word → used_by code ≡ used_of digit word
by_parts code digit word rest times = ap (λ (d : ℕ). used_of d (code / 4)) rest ∙ ap (λ (w : ℕ). used_of digit w) times

pub told_use : (used : Use) → used_by (code_of used) ≡ used
told_use None = refl
told_use (Some (Load, word)) = by_parts (4 * word + 1) 1 word (omega arith) (omega arith)
told_use (Some (Store, word)) = by_parts (4 * word + 2) 2 word (omega arith) (omega arith)
told_use (Some (Amo, word)) = by_parts (4 * word + 3) 3 word (omega arith) (omega arith)
