-- Rule: the text of a soak: soak_lines
-- The text of a soak: what a run of a generated image came to.
use Rattle.std.specs.Prelude.{ℕ, zero, suc, ◌+◌, ◌==◌, if◌then◌else◌, List, ◌++◌, length, sum_by, slice_index}
use Rattle.std.specs.Prelude.{codes, decimal}
use Rattle.image_mem.specs.Contents.{Contents, opening_word}
use Rattle.race_log.specs.Counts.{edge_count_of}
use Rattle.race_log.specs.declared.recording.Recording.{Recording}
use Rattle.rtr_types.specs.declared.pairs.Which.TheVariants.{Reduced, Regulated}
use Rattle.state_text.specs.Pieces.{line}
use Rattle.trace_gen.specs.declared.shape.Shape.{Shape}
use Rattle.trace_gen.specs.declared.shape.Shape.TheVariants.{Mix, Lock}
use Rattle.std.specs.Prelude.{◌≡◌, ◌*◌, ◌<◌, ◌≤◌, ◌⊎◌, []}
use Rattle.rtr_types.specs.declared.params.Params.{Params}
use Rattle.state_text.specs.declared.exit.Exit.{Exit}
use Rattle.state_text.specs.declared.exit.Exit.TheVariants as exits
use Rattle.trace_gen.specs.Programs.{generated, image_length}
use Rattle.rtr_cli.specs.Inputs.{image_of}
use Rattle.rtr_cli.specs.Runs.{outcome_of_bytes, recording_of_bytes}

-- the word for a shape, as it stands on the command line
abbrev pub shape_name : Shape → List ℕ
shape_name Mix = codes "mix"
shape_name Lock = codes "lock"

-- how many of the first n words don't have their opening values
unfoldable pub changed_below : Contents → (words : List ℕ) → (n : ℕ) → ℕ
changed_below image words zero = 0
changed_below image words (suc n) =
    changed_below image words n + (if slice_index words n == opening_word image n then 0 else 1)

abbrev pub changed_count : Contents → (words : List ℕ) → ℕ
changed_count image words = changed_below image words (length words)

-- the instructions that all cores retired
abbrev pub retired_count : Recording → ℕ
retired_count r = sum_by (λ t. t) r.totals

-- the vectors of all pairs
abbrev pub vector_count : Recording → ℕ
vector_count r = sum_by length r.regulated

-- the program and how many cores ran it
abbrev pub program_line : Shape → (number cores : ℕ) → List ℕ
program_line shape number cores =
    line (codes "shape " ++ shape_name shape ++ codes " number " ++ decimal number ++ codes " cores " ++ decimal cores)

abbrev pub retired_line : Recording → List ℕ
retired_line r = line (codes "retired " ++ decimal (retired_count r))

-- the sizes of both logs
abbrev pub log_lines : Recording → List ℕ
log_lines r =
    line (codes "reduced " ++ decimal (edge_count_of Reduced r))
    ++ line (codes "regulated " ++ decimal (vector_count r) ++ codes " vectors " ++ decimal (edge_count_of Regulated r)
    ++ codes " edges")

-- the program, the instructions retired, the logs, and the changed words
abbrev pub soak_lines : Shape → (number : ℕ) → Recording → (changed : ℕ) → List ℕ
soak_lines shape number r changed =
    program_line shape number r.params.cores ++ retired_line r ++ log_lines r
    ++ line (codes "changed " ++ decimal changed ++ codes " words")

-- what `soak` prints: the recording of the run of the generated image without choice bytes, and how many words of
-- memory that run changed
abbrev pub soaked_lines : Shape → (number : ℕ) → Params → (seed : ℕ) → List ℕ
soaked_lines shape number params seed =
    soak_lines shape number (recording_of_bytes params [] seed bytes)
    (changed_count (image_of params bytes) (outcome_of_bytes params [] seed bytes).words)
  where
    bytes : List ℕ
    bytes = generated shape number

-- the generated image fits the memory, and this is what `soak` prints of it
abbrev pub IsSoaked : Shape → (number : ℕ) → Params → (seed : ℕ) → (out : List ℕ) → Type 0
IsSoaked shape number params seed out =
    (image_length shape ≤ 4 * params.words) × (out ≡ soaked_lines shape number params seed)

-- a soak ends so: for want of memory, or where the generated image is longer than the memory
abbrev pub SoakEnds : Shape → Params → Exit → Type 0
SoakEnds shape params exit =
    (exit ≡ exits.OutOfMemory) ⊎ ((exit ≡ exits.TooLarge) × (4 * params.words < image_length shape))
