-- Rule: the core file of a moment of a recorded run: IsStateOf, IsCoreAt
-- The core file of a moment of a recorded run.
use Rattle.std.specs.Prelude.{◌≡◌, ℕ, false, List}
use Rattle.core_file.specs.CoreFiles.{core_bytes_of}
use Rattle.cut_replay.specs.CutStates.{IsStateAt}
use Rattle.log_codec.specs.Reading.{whole_at}
use Rattle.race_log.specs.declared.recording.Recording.{Recording}
use Rattle.replay_audit.specs.Audits.{IsInstrOf}
use Rattle.rtr_cli.specs.Inputs.{SpellsSome}
use Rattle.rtr_cli.specs.Cuts.{IsCutAt}
use Rattle.rtr_types.specs.declared.cut.Cut.{Cut}
use Rattle.rv_core.specs.declared.outcome.Outcome.{Outcome}
use Rattle.tool_words.specs.declared.command.Command.{Command}
use Rattle.tool_words.specs.declared.command.Command.TheVariants.{At}
use Rattle.gdb_cli.specs.declared.words.Moment.{Moment}

-- the command of `rtr` that prints the state at the moment
abbrev pub printed_by : Moment → Command
printed_by moment = At moment.which moment.at moment.latest false

-- the cut is the closed one of the moment: the least that has the instruction, or the greatest that doesn't; and this
-- is the state that every replay order comes to whose counts are the cut's
abbrev pub IsStateOf : Moment → Recording → Cut → Outcome → Type 0
IsStateOf moment r cut outcome =
    IsCutAt moment.which r moment.at moment.latest cut × IsStateAt moment.which r cut outcome

-- of an instruction of the recording the core file of that state, in which the instruction's core stands first
abbrev pub IsCoreAt : Moment → Recording → (out : List ℕ) → Type 0
IsCoreAt moment r out =
    IsInstrOf r moment.at
    × (cut : Cut) × (outcome : Outcome) × IsStateOf moment r cut outcome × (out ≡ core_bytes_of moment.at.core outcome)

-- the input spells a recording of which that is the core file
abbrev pub MakesCore : Moment → (input out : List ℕ) → Type 0
MakesCore moment input out = SpellsSome (whole_at input) (λ r. IsCoreAt moment r out)

-- there is one
abbrev pub OneCoreFileLaw : Type 0
OneCoreFileLaw = (moment : Moment) (input out other : List ℕ) → MakesCore moment input out →
    MakesCore moment input other → out ≡ other
