-- What runs and their recordings give, and how commands end that load an image.
use Rattle.std.specs.Prelude.{◌≡◌, ℕ, ◌⊎◌, Bool, false, List, Err}
use Rattle.run_records.specs.Recordings.{recording_of}
use Rattle.image_elf.specs.declared.elf_fault.ElfFault.{ElfFault}
use Rattle.image_mem.specs.Contents.{Contents}
use Rattle.rv_core.specs.declared.outcome.Outcome.{Outcome}
use Rattle.schedule_pick.specs.Choices.{choices_of}
use Rattle.run_outcome.specs.Outcomes.{end_of}
use Rattle.msi_state.specs.Runs.{IsRunEnd}
use Rattle.run_outcome.specs.Outcomes.{outcome_of}
use Rattle.race_log.specs.declared.recording.Recording.{Recording}
use Rattle.rtr_types.specs.declared.params.Params.{Params}
use Rattle.log_codec.specs.Spelling.{spelling}
use Rattle.state_text.specs.declared.exit.Exit.{Exit}
use Rattle.state_text.specs.declared.exit.Exit.TheVariants as exits
use Rattle.state_text.specs.States.{state_lines}
use Rattle.tool_words.specs.declared.command.RunWords.{RunWords}
use Rattle.rtr_cli.specs.Inputs.{image_of, loaded}

-- the outcome of the run of the image of these bytes, under the schedule of these choice bytes and this seed
abbrev pub outcome_of_bytes : Params → (choices : List ℕ) (seed : ℕ) → (bytes : List ℕ) → Outcome
outcome_of_bytes params choices seed bytes = outcome_of (image_of params bytes) params (choices_of choices seed)

-- the recording of that run: its reduced log is the least set of the run's accesses
abbrev pub recording_of_bytes : Params → (choices : List ℕ) (seed : ℕ) → (bytes : List ℕ) → Recording
recording_of_bytes params choices seed bytes = recording_of (image_of params bytes) params (choices_of choices seed)

-- what `record` gives of a run of the image of these bytes, and what `run` prints of it
abbrev pub recorded_bytes : RunWords → (bytes : List ℕ) → List ℕ
recorded_bytes run bytes = spelling (recording_of_bytes run.params run.choices run.seed bytes)

abbrev pub run_lines : RunWords → (loads : Bool) → (bytes : List ℕ) → List ℕ
run_lines run loads bytes =
    state_lines (outcome_of_bytes run.params run.choices run.seed bytes) (image_of run.params bytes) loads

-- a run whose input has no image ends so
abbrev pub LoadEnds : RunWords → (input : List ℕ) → Exit → Type 0
LoadEnds run input exit =
    (exit ≡ exits.OutOfMemory) ⊎ ((fault : ElfFault) × (exit ≡ exits.Elf fault) × (loaded run input ≡ Err fault))

-- a run with these options of the image on the input
abbrev pub flat_run : Params → (choices : List ℕ) (seed : ℕ) → RunWords
flat_run params choices seed = record { params = params; choices = choices; seed = seed; elf = false }

-- the run ends where its outcome is taken: there each core's program is done, and at no moment before
abbrev pub RunEnds : Contents → Params → (choices : ℕ → ℕ) → Type 0
RunEnds image params choices = IsRunEnd image params choices (end_of image params choices)
