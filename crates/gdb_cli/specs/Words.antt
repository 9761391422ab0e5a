-- Rule: which words ask for a session, by which log: session_log
-- What words ask for.
use Rattle.std.specs.Prelude.{ℕ, false, List, [], ◌∷◌, Option, Some, None, codes, if◌then◌else◌}
use Rattle.std.specs.Str.{bytes_eq}
use Rattle.rtr_types.specs.declared.pairs.Which.{Which}
use Rattle.tool_words.specs.declared.command.Command.{Command}
use Rattle.tool_words.specs.declared.command.Command.TheVariants.{At, Replay}
use Rattle.tool_words.specs.Reading.{meaning}
use Rattle.gdb_cli.specs.declared.words.Moment.{Moment}

-- the moment that a command of `rtr` prints the state of, without the loads
abbrev pub moment_of : Option Command → Option Moment
moment_of (Some (At which at latest false)) = Some (record { which = which; at = at; latest = latest })
moment_of meant = None

-- the moment whose core file the words ask for
abbrev pub moment_in : List (List ℕ) → Option Moment
moment_in words = moment_of (meaning words)

-- the log by which a command replays a recording, without threads and loads
abbrev pub log_of : Option Command → Option Which
log_of (Some (Replay which None false)) = Some which
log_of meant = None

-- the log of the session that words ask for: the first names the recording's file, and isn't `at`; the others are
-- options as `rtr replay` takes them
abbrev pub session_log : List (List ℕ) → Option Which
session_log [] = None
session_log (file ∷ options) =
    if bytes_eq file (codes "at") then None else log_of (meaning (codes "replay" ∷ options))

-- the name of the recording's file
abbrev pub file_name : List (List ℕ) → List ℕ
file_name [] = []
file_name (file ∷ options) = file
