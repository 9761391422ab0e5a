-- Rule: how a verb of a hunt is used, in a line: use_line
-- How each verb is used: its own options, and those that each verb takes.
use Rattle.std.specs.Prelude.{ℕ, List, [], ◌∷◌, ◌++◌, codes, flat_map}
use Rattle.hunt_words.specs.declared.verbs.Verb.{Verb}
use Rattle.hunt_words.specs.declared.verbs.Verb.TheVariants.{First, Table, Small, Words, Record}

-- a line: its text and one line feed
abbrev pub line : List ℕ → List ℕ
line text = text ++ 10 ∷ []

-- the runs of a range
abbrev pub runs_use : List ℕ
runs_use = codes " [--runs A..B] [--by P] [--threads N]"

-- one run
abbrev pub run_use : List ℕ
run_use = codes " --run N [--by P]|--turns T"

-- a verb's own options
abbrev pub verb_use : Verb → List ℕ
verb_use First = codes "first" ++ runs_use ++ codes " [--plain] --expect C|--never C|--same PLACES <IMAGE"
verb_use Table = codes "table" ++ runs_use ++ codes " [--see PLACES] [--expect C|--never C] <IMAGE"
verb_use Small = codes "small" ++ run_use ++ codes " --expect C|--never C <IMAGE"
verb_use Words = codes "words" ++ run_use ++ codes " <IMAGE"
verb_use Record = codes "record" ++ run_use ++ codes " <IMAGE >RECORDING"

abbrev pub verb_line : Verb → List ℕ
verb_line verb = line (codes "rtr_hunt " ++ verb_use verb)

-- the options of each verb, and where the manual is
abbrev pub shared_line : List ℕ
shared_line =
    line (codes "Each takes [--cores N] [--limit N] [--words N] [--elf|--tso] too. The manual is docs/FORMATS.md.")

abbrev pub use_line : Verb → List ℕ
use_line verb = verb_line verb ++ shared_line

-- the verbs in the order in which they are told
abbrev pub all_verbs : List Verb
all_verbs = First ∷ Table ∷ Small ∷ Words ∷ Record ∷ []

abbrev pub table : List ℕ
table =
    flat_map verb_line all_verbs ++ line (codes "rtr_hunt --help") ++ line (codes "rtr_hunt --version") ++ shared_line
