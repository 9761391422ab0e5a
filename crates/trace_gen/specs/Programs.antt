-- Rule: the generated programs and their images: program, generated
-- The programs, instruction by instruction, and their images.
use Rattle.std.specs.Prelude.{ℕ, pos, ◌+◌, ◌*◌, ◌/◌, ◌%◌, ◌==◌, ◌&&◌, nat_le, Bool, true, if◌then◌else◌, List, [], ◌∷◌}
use Rattle.std.specs.Prelude.{◌++◌, length, map}
use Rattle.std.specs.Int.{to_le_bytes, w32}
use Rattle.std.specs.List.{flat_map, range_with_len}
use Rattle.rand_pcg.specs.Lcg.{Lcg, increment_of, started}
use Rattle.rand_pcg.specs.Pcg.{multiplier_64}
use Rattle.rv_decode.specs.declared.op.Op.{Op}
use Rattle.rv_decode.specs.declared.op.Op.TheVariants.{Ecall}
use Rattle.rv_decode.specs.Words.{encoding}
use Rattle.schedule_pick.specs.Choices.{drawn_word}
use Rattle.trace_gen.specs.declared.shape.Shape.{Shape}
use Rattle.trace_gen.specs.declared.shape.Shape.TheVariants.{Mix, Lock}
use Rattle.trace_gen.specs.Assembly.{addi, xori, slli, lw, sw, sb, beq, bne, minus}
use Rattle.trace_gen.specs.Assembly.{x0, x5, x6, x7, x8, x9, x10, x11, x12, x13}

-- the setup once, and then the round `rounds` times: x5 counts how often it is still gone through
unfoldable pub repeated : (rounds : ℕ) (setup round : List Op) → List Op
repeated rounds setup round =
    (addi x5 x0 (pos rounds) ∷ setup)
    ++ round
    ++ (addi x5 x5 (minus 1) ∷ bne x5 x0 (minus (4 * (length round + 1))) ∷ Ecall ∷ [])

-- Peterson's lock: the flags of cores 0 and 1 stand at 256 and 272, the turn at 288, what the lock guards at 304.
-- The setup has 16 times the core's number in x6, the other's number in x7, 16 times that in x8, and 1 in x9.
unfoldable pub lock_setup : List Op
lock_setup =
    slli x6 x10 (pos 4)
    ∷ xori x7 x10 (pos 1)
    ∷ slli x8 x7 (pos 4)
    ∷ addi x9 x0 (pos 1)
    ∷ []

-- A core raises its flag and gives the turn away. It waits while the other's flag is raised and the turn is the
-- other's. Then it adds 1 to what the lock guards, and lowers its flag.
unfoldable pub lock_round : List Op
lock_round =
    sw x9 (pos 256) x6
    ∷ sw x7 (pos 288) x0
    ∷ lw x11 (pos 256) x8
    ∷ beq x11 x0 (pos 12)
    ∷ lw x12 (pos 288) x0
    ∷ beq x12 x7 (minus 12)
    ∷ lw x13 (pos 304) x0
    ∷ addi x13 x13 (pos 1)
    ∷ sw x13 (pos 304) x0
    ∷ sw x0 (pos 256) x6
    ∷ []

-- The instruction that a drawn word stands for, from its low bits up: two for its kind, two for one of x11 to x14,
-- six for a word of memory from 1280 on or for what is added, and two for the lane of a byte.
unfoldable pub mixed : (word : ℕ) → Op
mixed word =
    let register = x11 + word / 4 % 4 in
    let step = word / 16 % 64 in
    let address = 1280 + 4 * step in
    if word % 4 == 0 then lw register (pos address) x0
    else if word % 4 == 1 then sw register (pos address) x0
    else if word % 4 == 2 then addi register register (pos (1 + step))
    else sb register (pos (address + word / 1024 % 4)) x0

-- PCG's generator XSH RR 64/32 (O'Neill 2014), started from this number at stream 1
abbrev pub mix_generator : (number : ℕ) → Lcg
mix_generator number = started 64 multiplier_64 number (increment_of 64 1)

-- the word numbered k, from 0, that it draws
abbrev pub mix_word : (number k : ℕ) → ℕ
mix_word number k = drawn_word (mix_generator number) k

unfoldable pub mix_round : (number : ℕ) → List Op
mix_round number = map (λ k. mixed (mix_word number k)) (range_with_len 0 256)

unfoldable pub program : Shape → (number : ℕ) → List Op
program Mix number = repeated 100 [] (mix_round number)
program Lock number = repeated number lock_setup lock_round

-- the numbers that a shape has
abbrev pub takes : Shape → (number : ℕ) → Bool
takes Mix number = true
takes Lock number = nat_le 1 number && nat_le number 2047

-- an instruction's word, its lowest byte first
abbrev pub instruction_bytes : Op → List ℕ
instruction_bytes op = to_le_bytes w32 (encoding op)

abbrev pub generated : Shape → (number : ℕ) → List ℕ
generated shape number = flat_map instruction_bytes (program shape number)

-- how many bytes an image has
abbrev pub image_length : Shape → ℕ
image_length Mix = 1040
image_length Lock = 72
