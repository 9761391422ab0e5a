-- Rule: how a command is used, in a line: use_line
-- How each command is used: its name and just the options that it takes.
use Rattle.std.specs.Prelude.{ℕ, List, [], ◌∷◌, ◌++◌, codes, flat_map, if◌then◌else◌}
use Rattle.tool_words.specs.declared.command.Verb.{Verb}
use Rattle.tool_words.specs.declared.command.Verb.TheVariants.{Record, Run, Print, Replay, Migrate, Certify, Check}
use Rattle.tool_words.specs.declared.command.Verb.TheVariants.{Gen, Soak, At, Thin, CheckThin}
use Rattle.tool_words.specs.declared.command.Verb.TheVariants.{TsoRecord, TsoRun, TsoReplay}
use Rattle.tool_words.specs.declared.options.Name.{Name}
use Rattle.tool_words.specs.declared.options.Name.TheVariants.{Cores, Limit, Words, Choices, Seed, Log, Loads, Elf}
use Rattle.tool_words.specs.declared.options.Name.TheVariants.{Shape, Number}
use Rattle.tool_words.specs.declared.options.Name.TheVariants.{Core, Count, Latest, Certified, Threads}
use Rattle.tool_words.specs.Options.{takes}

-- a line: its text and one line feed
abbrev pub line : List ℕ → List ℕ
line text = text ++ 10 ∷ []

-- the word that names the command
abbrev pub verb_word : Verb → List ℕ
verb_word Record = codes "record"
verb_word Run = codes "run"
verb_word Print = codes "print"
verb_word Replay = codes "replay"
verb_word Migrate = codes "migrate"
verb_word Certify = codes "certify"
verb_word Check = codes "check"
verb_word Gen = codes "gen"
verb_word Soak = codes "soak"
verb_word At = codes "at"
verb_word Thin = codes "thin"
verb_word CheckThin = codes "checkthin"
verb_word TsoRecord = codes "tsorecord"
verb_word TsoRun = codes "tsorun"
verb_word TsoReplay = codes "tsoreplay"

-- the word that names the option
abbrev pub option_word : Name → List ℕ
option_word Cores = codes "--cores"
option_word Limit = codes "--limit"
option_word Words = codes "--words"
option_word Choices = codes "--choices"
option_word Seed = codes "--seed"
option_word Log = codes "--log"
option_word Shape = codes "--shape"
option_word Number = codes "--number"
option_word Core = codes "--core"
option_word Count = codes "--count"
option_word Threads = codes "--threads"
option_word Loads = codes "--loads"
option_word Elf = codes "--elf"
option_word Latest = codes "--latest"
option_word Certified = codes "--certify"

-- an option that a command may lack, with what stands for its value
abbrev pub may_stand : Name → (form : List ℕ) → List ℕ
may_stand name form = codes " [" ++ option_word name ++ form ++ codes "]"

-- and one that each command that takes it must have
abbrev pub must_stand : Name → (form : List ℕ) → List ℕ
must_stand name form = codes " " ++ option_word name ++ form

abbrev pub option_use : Name → List ℕ
option_use Choices = may_stand Choices (codes " HEX")
option_use Log = may_stand Log (codes " reduced|regulated")
option_use Loads = may_stand Loads []
option_use Elf = may_stand Elf []
option_use Latest = may_stand Latest []
option_use Certified = may_stand Certified []
option_use Shape = must_stand Shape (codes " mix|lock")
option_use Number = must_stand Number (codes " N")
option_use Core = must_stand Core (codes " N")
option_use Count = must_stand Count (codes " N")
option_use name = may_stand name (codes " N")

-- the options in the order in which they are told
abbrev pub all_names : List Name
all_names =
    Shape ∷ Number ∷ Core ∷ Count ∷ Cores ∷ Limit ∷ Words ∷ Choices ∷ Seed ∷ Elf ∷ Log ∷ Threads ∷ Latest ∷ Certified
    ∷ Loads ∷ []

abbrev pub use_line : Verb → List ℕ
use_line verb =
    line (codes "rtr " ++ verb_word verb ++ flat_map (λ name. if takes verb name then option_use name else []) all_names)

-- the commands in the order in which they are told
abbrev pub all_verbs : List Verb
all_verbs =
    Record ∷ Run ∷ Print ∷ Replay ∷ At ∷ Thin ∷ CheckThin ∷ Migrate ∷ Certify ∷ Check ∷ Gen ∷ Soak ∷ TsoRecord ∷ TsoRun
    ∷ TsoReplay ∷ []

abbrev pub table : List ℕ
table = flat_map use_line all_verbs ++ line (codes "The manual is docs/FORMATS.md, and README.md says how to begin.")
