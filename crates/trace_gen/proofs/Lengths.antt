-- How long rounds, programs and images are.
use Rattle.std.proofs.Common.{◌≡◌, ℕ, ◌+◌, ◌*◌, arith, refl, ◌∙◌, List, [], ◌∷◌, length, length-append, flat_map}
use Rattle.std.proofs.lemmas.List.FromFn.{length-map-range_with_len}
use Rattle.rv_decode.specs.declared.op.Op.{Op}
use Rattle.trace_gen.specs.declared.shape.Shape.{Shape}
use Rattle.trace_gen.specs.declared.shape.Shape.TheVariants.{Mix, Lock}
use Rattle.trace_gen.specs.Laws.{Sized}
use Rattle.trace_gen.specs.Programs.{repeated, lock_setup, lock_round, mixed, mix_word}
use Rattle.trace_gen.specs.Programs.{mix_round, program, instruction_bytes, image_length}

pub mix_round_length : (number : ℕ) → length (mix_round number) ≡ 256
unfolding mix_round
mix_round_length number = length-map-range_with_len (λ k. mixed (mix_word number k)) 0 256

pub lock_round_length : length lock_round ≡ 10
unfolding lock_round
lock_round_length = refl

lock_setup_length : length lock_setup ≡ 4
unfolding lock_setup
lock_setup_length = refl

repeated_length : (rounds : ℕ) (setup round : List Op) → length (repeated rounds setup round) ≡ length setup + length
    round + 4
unfolding repeated
repeated_length rounds setup round = simp length-append (omega arith)

pub bytes_length : (ops : List Op) → length (flat_map instruction_bytes ops) ≡ 4 * length ops
bytes_length [] = refl
bytes_length (op ∷ ops) =
    let rest = bytes_length ops in
    simp length-append (omega arith)

program_length : (shape : Shape) (number : ℕ) → 4 * length (program shape number) ≡ image_length shape
unfolding program
program_length Mix number = omega (arith, repeated_length 100 [] (mix_round number), mix_round_length number)
program_length Lock number = omega (
  arith,
  repeated_length number lock_setup lock_round,
  lock_setup_length,
  lock_round_length,
)

pub sized : (shape : Shape) (number : ℕ) → Sized shape number
sized shape number =
    let instructions = bytes_length (program shape number) in
    record { instructions = instructions; bytes = instructions ∙ program_length shape number }
