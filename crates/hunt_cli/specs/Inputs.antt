-- The input of a hunt.
use Rattle.std.specs.Prelude.{ℕ, [], List}
use Rattle.tool_words.specs.declared.command.RunWords.{RunWords}
use Rattle.rtr_cli.specs.Inputs.{run_bytes_max}
use Rattle.hunt_words.specs.declared.hunt.Hunt.{Hunt}
use Rattle.hunt_words.specs.declared.hunt.Hunt.TheVariants.{First, Table, Small, Words, Record}
use Rattle.hunt_words.specs.declared.hunt.Setup.{Setup}

-- the run under these choices, as `rtr` records it
abbrev pub words_of : Setup → (choices : List ℕ) → (seed : ℕ) → RunWords
words_of setup choices seed = record { params = setup.params; choices = choices; seed = seed; elf = setup.elf }

-- a run of `rtr` that begins as the hunt's runs do
abbrev pub as_run : Setup → RunWords
as_run setup = words_of setup [] 0

-- the machine that a hunt's runs are made on
abbrev pub setup_in : Hunt → Setup
setup_in (First setup runs demand plain) = setup
setup_in (Table setup runs places demand) = setup
setup_in (Small setup run demand) = setup
setup_in (Words setup run) = setup
setup_in (Record setup run) = setup

-- the most bytes of a hunt's input
abbrev pub bytes_max : Setup → ℕ
bytes_max setup = run_bytes_max (as_run setup)
