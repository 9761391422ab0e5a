-- Rule: how much input a command takes: most_of
-- The input of each command, and the image that a run begins with.
use Rattle.std.specs.Prelude.{◌≡◌, ℕ, ◌*◌, ◌≤◌, if◌then◌else◌, List, [], length, Option, Some, None, Result, Ok, Err}
use Rattle.image_elf.specs.declared.elf_fault.ElfFault.{ElfFault}
use Rattle.image_elf.specs.Faults.{elf_fault}
use Rattle.image_elf.specs.FlatImage.{flat_image}
use Rattle.image_mem.specs.Contents.{Contents}
use Rattle.rtr_types.specs.declared.params.Params.{Params}
use Rattle.tool_words.specs.declared.command.Command.{Command}
use Rattle.tool_words.specs.declared.command.Command.TheVariants.{Record, Run, Print, Replay, Migrate, Certify, Check}
use Rattle.tool_words.specs.declared.command.Command.TheVariants.{Gen, Soak, At, Thin, CheckThin, TsoRecord, TsoRun}
use Rattle.tool_words.specs.declared.command.Command.TheVariants.{TsoReplay}
use Rattle.tool_words.specs.declared.command.RunWords.{RunWords}

-- the most bytes of a recording, a certificate or an ELF file: 512 MiB
abbrev pub file_bytes_max : ℕ
file_bytes_max = 536870912

-- the most bytes of a run's input: an image has at most those of the memory
abbrev pub run_bytes_max : RunWords → ℕ
run_bytes_max run = if run.elf then file_bytes_max else 4 * run.params.words

-- the most bytes of input that the command takes, if it takes an input at all
abbrev pub most_of : Command → Option ℕ
most_of (Record run) = Some (run_bytes_max run)
most_of (Run run loads) = Some (run_bytes_max run)
most_of Print = Some file_bytes_max
most_of (Replay which threads loads) = Some file_bytes_max
most_of Migrate = Some file_bytes_max
most_of Certify = Some file_bytes_max
most_of Check = Some file_bytes_max
most_of (Gen shape number) = None
most_of (Soak shape number params seed) = None
most_of (At which at latest loads) = Some file_bytes_max
most_of (Thin certify) = Some file_bytes_max
most_of CheckThin = Some file_bytes_max
most_of (TsoRecord run) = Some (4 * run.params.words)
most_of (TsoRun run loads) = Some (4 * run.params.words)
most_of (TsoReplay loads) = Some file_bytes_max

-- the command takes an input of these bytes; one that takes no input has none
abbrev pub IsWithin : (most : Option ℕ) → (input : List ℕ) → Type 0
IsWithin None input = input ≡ []
IsWithin (Some most) input = length input ≤ most

-- the image, unless the file has a fault
abbrev pub unless_faulty : (image : List ℕ) → Option ElfFault → Result (List ℕ) ElfFault
unless_faulty image None = Ok image
unless_faulty image (Some fault) = Err fault

-- the bytes of the image that a run begins with: the input, or the flat image of the ELF file that the input is
abbrev pub loaded : RunWords → (input : List ℕ) → Result (List ℕ) ElfFault
loaded run input =
    if run.elf then unless_faulty (flat_image input) (elf_fault input run.params.words) else Ok input

-- the image of these bytes
abbrev pub image_of : Params → (bytes : List ℕ) → Contents
image_of params bytes = record { bytes = bytes; words = params.words }

-- the input spells something of which this holds
abbrev pub SpellsSome : {X E : Type 0} → Result X E → (X → Type 0) → Type 0
SpellsSome (Ok x) P = P x
SpellsSome (Err e) P = ⊥
