-- Each instruction of a generated program has a word.
use Rattle.std.proofs.Common.{ℕ, ◌+◌, ◌*◌, ◌/◌, ◌%◌, ◌==◌, ◌≤◌, pos, arith, Bool, true, false, cond, IsTrue, List, []}
use Rattle.std.proofs.Common.{◌∷◌, ◌++◌, length, All}
use Rattle.std.specs.List.{range_with_len}
use Rattle.std.proofs.lemmas.Bool.Decides.{nat_tests}
use Rattle.std.proofs.lemmas.Int.{ints}
use Rattle.std.proofs.lemmas.List.Elements.{All-append, All-cons, All-nil, All-map, All-from_recursion}
use Rattle.rv_decode.specs.declared.op.Op.{Op}
use Rattle.rv_decode.specs.declared.op.Op.TheVariants.{Ecall}
use Rattle.rv_decode.specs.Ranges.{Fits}
use Rattle.trace_gen.specs.declared.shape.Shape.{Shape}
use Rattle.trace_gen.specs.declared.shape.Shape.TheVariants.{Mix, Lock}
use Rattle.trace_gen.specs.Assembly.{addi, lw, sw, sb, bne, minus, x0, x5, x11}
use Rattle.trace_gen.specs.Programs.{repeated, lock_setup, lock_round, mixed, mix_word, mix_round, program, takes}
use Rattle.trace_gen.proofs.Lengths.{mix_round_length, lock_round_length}

even_back : (n : ℕ) → n ≤ 1024 → Fits (bne x5 x0 (minus (4 * n)))
even_back n small = grind (arith, ints, nat_tests)

pub repeated_fits : (rounds : ℕ) (setup round : List Op) → rounds ≤ 2047 → length round ≤ 1023 → All Fits setup →
    All Fits round
    → All Fits (repeated rounds setup round)
unfolding repeated
repeated_fits rounds setup round few short setup_fits round_fits =
    let start : Fits (addi x5 x0 (pos rounds)) = grind (arith, ints) in
    let count : Fits (addi x5 x5 (minus 1)) = grind (arith, ints) in
    let back : Fits (bne x5 x0 (minus (4 * (length round + 1)))) = even_back (length round + 1) (omega arith) in
    let end : All Fits (addi x5 x5 (minus 1) ∷ bne x5 x0 (minus (4 * (length round + 1))) ∷ Ecall ∷ []) =
    All-from_recursion Fits (addi x5 x5 (minus 1) ∷ bne x5 x0 (minus (4 * (length round + 1))) ∷ Ecall ∷ []) (
      count,
      (back, (tt, tt)),
    ) in
    let front : All Fits (addi x5 x0 (pos rounds) ∷ setup) =
    All-cons Fits (addi x5 x0 (pos rounds)) setup start setup_fits in
    let body : All Fits (addi x5 x0 (pos rounds) ∷ setup ++ round) =
    All-append Fits (addi x5 x0 (pos rounds) ∷ setup) round front round_fits in
    All-append Fits (addi x5 x0 (pos rounds) ∷ setup ++ round)
    (addi x5 x5 (minus 1) ∷ bne x5 x0 (minus (4 * (length round + 1))) ∷ Ecall ∷ []) body end

chosen : (b : Bool) (x y : Op) → Fits x → Fits y → Fits (cond b x y)
chosen true x y p q = p
chosen false x y p q = q

pub mixed_fits : (word : ℕ) → Fits (mixed word)
unfolding mixed
mixed_fits word =
    let register = x11 + word / 4 % 4 in
    let step = word / 16 % 64 in
    let lane = word / 1024 % 4 in
    let load : Fits (lw register (pos (1280 + 4 * step)) x0) = grind (arith, ints) in
    let store : Fits (sw register (pos (1280 + 4 * step)) x0) = grind (arith, ints) in
    let add : Fits (addi register register (pos (1 + step))) = grind (arith, ints) in
    let byte : Fits (sb register (pos (1280 + 4 * step + lane)) x0) = grind (arith, ints) in
    chosen (word % 4 == 0) _ _ load (chosen (word % 4 == 1) _ _ store (chosen (word % 4 == 2) _ _ add byte))

mix_round_fits : (number : ℕ) → All Fits (mix_round number)
unfolding mix_round
mix_round_fits number = All-map Fits (λ k. mixed (mix_word number k)) (range_with_len 0 256)
    (λ k d within. mixed_fits _)

lock_setup_fits : All Fits lock_setup
unfolding lock_setup
lock_setup_fits = All-from_recursion Fits lock_setup (grind (arith, ints))

lock_round_fits : All Fits lock_round
unfolding lock_round
lock_round_fits = All-from_recursion Fits lock_round (grind (arith, ints))

pub program_fits : (shape : Shape) (number : ℕ) → IsTrue (takes shape number) → All Fits (program shape number)
unfolding program
program_fits Mix number taken =
    repeated_fits 100 [] (mix_round number) (omega arith) (omega (arith, mix_round_length number)) (All-nil Fits)
    (mix_round_fits number)
program_fits Lock number taken =
    repeated_fits number lock_setup lock_round (grind (arith, nat_tests)) (omega (arith, lock_round_length))
    lock_setup_fits lock_round_fits
