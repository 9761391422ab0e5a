-- The line by which `rtr` records a run: its words, and how they are written.
use Rattle.std.specs.Prelude.{◌≡◌, ℕ, ◌^◌, ◌==◌, ◌<◌, Bool, true, false, List, [], ◌∷◌, ◌++◌, Some, codes, decimal}
use Rattle.std.specs.Prelude.{slice_index, if◌then◌else◌}
use Rattle.std.specs.List.{flat_map}
use Rattle.hex.specs.Hex.{encode_lower}
use Rattle.rtr_types.specs.Parameters.{Fits}
use Rattle.tool_words.specs.declared.command.Command.{Command}
use Rattle.tool_words.specs.declared.command.Command.TheVariants.{Record, TsoRecord}
use Rattle.tool_words.specs.declared.command.RunWords.{RunWords}
use Rattle.tool_words.specs.Options.{cores_default, limit_default, words_default}
use Rattle.tool_words.specs.Reading.{meaning}

-- a flag, where it is on
abbrev pub flag_words : (name : List ℕ) → Bool → List (List ℕ)
flag_words name on = if on then name ∷ [] else []

-- an option and its number, where that isn't the default
abbrev pub number_words : (name : List ℕ) → (value default : ℕ) → List (List ℕ)
number_words name value default = if value == default then [] else name ∷ decimal value ∷ []

-- choice bytes as hexadecimal digits, where there is one
abbrev pub choice_words : List ℕ → List (List ℕ)
choice_words [] = []
choice_words (byte ∷ bytes) = codes "--choices" ∷ encode_lower (byte ∷ bytes) ∷ []

-- what follows the command
abbrev pub option_words : RunWords → List (List ℕ)
option_words run =
    flag_words (codes "--elf") run.elf
    ++ (number_words (codes "--cores") run.params.cores cores_default
    ++ (number_words (codes "--limit") run.params.limit limit_default
    ++ (number_words (codes "--words") run.params.words words_default
    ++ (number_words (codes "--seed") run.seed 0 ++ choice_words run.choices))))

abbrev pub command_word : (tso : Bool) → List ℕ
command_word tso = if tso then codes "tsorecord" else codes "record"

-- the words of `rtr` that record the run, with store buffers or without
abbrev pub line_words : (tso : Bool) → RunWords → List (List ℕ)
line_words tso run = command_word tso ∷ option_words run

-- a word behind a space
abbrev pub spaced : List ℕ → List ℕ
spaced word = 32 ∷ word

-- the line of these words
abbrev pub line : (tso : Bool) → RunWords → List ℕ
line tso run = codes "rtr" ++ flat_map spaced (line_words tso run)

-- `rtr` can record the run: parameters, seed and choice bytes are in their ranges, and with store buffers it is of an
-- image as it stands
pub record MayBeRecorded (tso : Bool) (run : RunWords) : Type 0 where
  pub fits : Fits run.params
  pub seed : run.seed < 2 ^ 64
  pub bytes : (k : ℕ) → slice_index run.choices k < 256
  pub flat : tso ≡ true → run.elf ≡ false

-- the command that records the run
abbrev pub recorded : (tso : Bool) → RunWords → Command
recorded tso run = if tso then TsoRecord run else Record run

-- `rtr`'s own reader takes the line's words for the command that records exactly this run
abbrev pub LineMeansTheRun : Type 0
LineMeansTheRun =
    (tso : Bool) (run : RunWords) → MayBeRecorded tso run → meaning (line_words tso run) ≡ Some (recorded tso run)
