-- Replays that words ask for on several threads, and how they end.
use Rattle.std.specs.Prelude.{ℕ, Bool, List, Option, Some, None}
use Rattle.std.specs.Io.KnownBytes.{Appends}
use Rattle.race_log.specs.declared.recording.Recording.{Recording}
use Rattle.log_codec.specs.Reading.{whole_at}
use Rattle.replay_core.specs.Plans.{plan_of, recorded_image}
use Rattle.replay_table.specs.Seats.{Ended as TableEnd, IsEnd}
use Rattle.state_text.specs.States.{state_lines}
use Rattle.tool_words.specs.declared.command.Command.{Command}
use Rattle.tool_words.specs.declared.command.Command.TheVariants.{Record, Run, Print, Replay, Migrate, Certify, Check}
use Rattle.tool_words.specs.declared.command.Command.TheVariants.{Gen, Soak, At, Thin, CheckThin}
use Rattle.tool_words.specs.declared.command.Command.TheVariants.{TsoRecord, TsoRun, TsoReplay}
use Rattle.rtr_cli.specs.declared.joint.Asked.{Asked}
use Rattle.rtr_cli.specs.Answers.{IsRead}
use Rattle.rtr_cli.specs.Inputs.{SpellsSome, file_bytes_max}

-- the replay on several threads that a command asks for
abbrev pub asked_of : Command → Option Asked
asked_of (Record run) = None
asked_of (Run run loads) = None
asked_of Print = None
asked_of (Replay which None loads) = None
asked_of (Replay which (Some threads) loads) = Some (record { which = which; threads = threads; loads = loads })
asked_of Migrate = None
asked_of Certify = None
asked_of Check = None
asked_of (Gen shape number) = None
asked_of (Soak shape number params seed) = None
asked_of (At which at latest loads) = None
asked_of (Thin certify) = None
asked_of CheckThin = None
asked_of (TsoRecord run) = None
asked_of (TsoRun run loads) = None
asked_of (TsoReplay loads) = None

-- the same of what words mean
abbrev pub asked_by : Option Command → Option Asked
asked_by None = None
asked_by (Some command) = asked_of command

-- the command that asks for it
abbrev pub command_of : Asked → Command
command_of a = Replay a.which (Some a.threads) a.loads

-- the text of what a closed table comes to, for this recording
abbrev pub joint_lines : (loads : Bool) → TableEnd → Recording → List ℕ
joint_lines loads closed r = state_lines closed.outcome (recorded_image r) loads

-- the table was closed behind a replay of this recording, of whose play it has the outcome and each core's accesses;
-- and the output got the text of what it comes to
abbrev pub ClosesWith : Asked → TableEnd → (got got' : Option (List ℕ)) → Recording → Type 0
ClosesWith asked closed got got' r =
    Appends got got' (joint_lines asked.loads closed r) × IsEnd (plan_of asked.which r) closed

-- the input was read to its end and spells a recording of which that is so
abbrev pub PrintsJoint : Asked → TableEnd → (left left' got got' : Option (List ℕ)) → Type 0
PrintsJoint asked closed left left' got got' =
    (input : List ℕ) × IsRead file_bytes_max left left' input
    × SpellsSome (whole_at input) (ClosesWith asked closed got got')

-- the same where a replay is asked for
abbrev pub PrintsSome : Option Asked → TableEnd → (left left' got got' : Option (List ℕ)) → Type 0
PrintsSome None closed left left' got got' = ⊥
PrintsSome (Some asked) closed left left' got got' = PrintsJoint asked closed left left' got got'
