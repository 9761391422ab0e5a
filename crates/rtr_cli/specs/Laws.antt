-- Laws of what commands make of what other commands made.
use Rattle.std.specs.Prelude.{◌≡◌, ℕ, Bool, false, List, ◌++◌, Option}
use Rattle.race_log.specs.declared.recording.Recording.{Recording}
use Rattle.rtr_types.specs.declared.pairs.Which.TheVariants.{Regulated}
use Rattle.log_codec.specs.declared.codec_fault.TheConstants.{HEADER}
use Rattle.log_codec.specs.declared.version.Version.{Version}
use Rattle.log_codec.specs.Laws.{IsBytes}
use Rattle.log_codec.specs.Reading.{whole_at}
use Rattle.log_codec.specs.Spelling.{spelling}
use Rattle.race_log.specs.Validity.{Valid}
use Rattle.log_codec.specs.Versions.{magic}
use Rattle.tso_codec.specs.Spelling.{tso_magic}
use Rattle.state_text.specs.declared.exit.Exit.{Exit}
use Rattle.state_text.specs.declared.exit.Exit.TheVariants as exits
use Rattle.tool_words.specs.declared.command.Command.{Command}
use Rattle.tool_words.specs.declared.command.Command.TheVariants.{Record, Run, Print, Replay, Migrate, Certify, Check}
use Rattle.tool_words.specs.declared.command.Command.TheVariants.{Gen, Soak, At, Thin, CheckThin, TsoRecord, TsoRun}
use Rattle.tool_words.specs.declared.command.Command.TheVariants.{TsoReplay}
use Rattle.rtr_cli.specs.Commands.{IsUnread, Makes, Refuses}
use Rattle.rtr_cli.specs.Promises.{Promised}

-- what migrate makes of an input reads as the input does
abbrev pub MigratedReadsTheSame : Type 0
MigratedReadsTheSame = (input out : List ℕ) → IsBytes input → Makes Migrate input out → whole_at out ≡ whole_at input

-- it leaves the bytes of a recording of the newest version as they are
abbrev pub NewestStays : Type 0
NewestStays = (r : Recording) → Valid r → Makes Migrate (spelling r) (spelling r)

-- the command reads a recording of one of the first two versions, or a file that begins as one
abbrev pub ReadsEarlier : Command → Type 0
ReadsEarlier (Record run) = ⊥
ReadsEarlier (Run run loads) = ⊥
ReadsEarlier Print = Unit {0}
ReadsEarlier (Replay which threads loads) = Unit {0}
ReadsEarlier Migrate = Unit {0}
ReadsEarlier Certify = Unit {0}
ReadsEarlier Check = Unit {0}
ReadsEarlier (Gen shape number) = ⊥
ReadsEarlier (Soak shape number params seed) = ⊥
ReadsEarlier (At which at latest loads) = Unit {0}
ReadsEarlier (Thin certify) = Unit {0}
ReadsEarlier CheckThin = Unit {0}
ReadsEarlier (TsoRecord run) = ⊥
ReadsEarlier (TsoRun run loads) = ⊥
ReadsEarlier (TsoReplay loads) = ⊥

-- such a command finds no header where a recording of cores with store buffers begins, whatever follows; and tsoreplay
-- finds none where one of an earlier version begins
pub record VersionsAreApart : Type 0 where
  pub earlier : (command : Command) (rest : List ℕ) → ReadsEarlier command → IsUnread command (tso_magic ++ rest) HEADER
  pub buffered : (loads : Bool) (version : Version) (rest : List ℕ)
      → IsUnread (TsoReplay loads) (magic version ++ rest) HEADER

-- what a command makes of an input is one output
abbrev pub MakesOne : Type 0
MakesOne = (command : Command) (input out other : List ℕ) → Makes command input out → Makes command input other →
    out ≡ other

-- the recording that thin makes of an input is refused by a replay of its regulated log for want of memory alone
abbrev pub ThinnedIsReplayed : Type 0
ThinnedIsReplayed = (threads : Option ℕ) (loads : Bool) (input out : List ℕ) (exit : Exit) →
    Makes (Thin false) input out → Refuses (Replay Regulated threads loads) out exit → exit ≡ exits.OutOfMemory

-- what certify makes is refused by check for want of memory alone
abbrev pub CertifiedIsAccepted : Type 0
CertifiedIsAccepted = (input out : List ℕ) (exit : Exit) → Makes Certify input out → Promised Certify input →
    Refuses Check out exit → exit ≡ exits.OutOfMemory
