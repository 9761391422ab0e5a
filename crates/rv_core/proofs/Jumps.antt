-- Jumps and branches by whole words, which need no look at their targets.
use Rattle.std.proofs.Common.{◌≡◌, ℕ, ◌+◌, ◌%◌, ◌^◌, Bool, true, false, Some, None, refl, nat_eq, nat_le, length, arith}
use Rattle.std.specs.Prelude.{ℤ, option_and_then, if◌then◌else◌, ◌&&◌}
use Rattle.std.proofs.lemmas.Bool.Decides.{nat_tests}
use Rattle.rv_decode.specs.declared.op.Op.{Op}
use Rattle.rv_decode.specs.Table.{decoded}
use Rattle.image_mem.specs.Contents.{Contents, fetched, word_from}
use Rattle.rv_core.specs.declared.core_state.Need.TheVariants.{Local, Done}
use Rattle.rv_core.specs.declared.core_state.Stop.TheVariants.{Jump}
use Rattle.rv_core.specs.Operations.{bits_of, moved}
use Rattle.rv_core.specs.Steps.{instruction_at, need_to_jump}

even_by : (even within : Bool) (word : ℕ) (op : Op)
    → option_and_then decoded (if even && within then Some word else None) ≡ Some op → even ≡ true
even_by true within word op h = refl
even_by false within word op h = cc

-- instructions stand at multiples of 4 alone
pub at_whole_word : (image : Contents) (pc : ℕ) (op : Op) → instruction_at image pc ≡ Some op → pc % 4 ≡ 0
unfolding instruction_at fetched
at_whole_word image pc op h =
    let even =
    even_by (nat_eq (pc % 4) 0) (nat_le (pc + 4) (length image.bytes)) (word_from image.bytes pc) op h in
    grind (arith, nat_tests)

aligned_by : (test : Bool) → test ≡ true → (if test then Local else Done Jump) ≡ Local
aligned_by true h = refl
aligned_by false h = cc

pub whole_jump : (pc : ℕ) (offset : ℤ) → pc % 4 ≡ 0 → bits_of offset % 4 ≡ 0 → need_to_jump (moved pc offset) ≡ Local
unfolding need_to_jump moved
whole_jump pc offset at by =
    let target : (pc + bits_of offset) % 2 ^ 32 % 4 ≡ 0 = omega arith in
    aligned_by (nat_eq ((pc + bits_of offset) % 2 ^ 32 % 4) 0) (grind (arith, nat_tests))

pub whole_branch : (taken : Bool) (pc : ℕ) (offset : ℤ) → pc % 4 ≡ 0 → bits_of offset % 4 ≡ 0
    → (if taken then need_to_jump (moved pc offset) else Local) ≡ Local
whole_branch true pc offset at by = whole_jump pc offset at by
whole_branch false pc offset at by = refl
