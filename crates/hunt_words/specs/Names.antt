-- The options by their words.
use Rattle.std.specs.Prelude.{ℕ, List, [], ◌∷◌, Option, codes}
use Rattle.tool_words.specs.Names.{named_by}
use Rattle.hunt_words.specs.declared.names.Name.{Name}
use Rattle.hunt_words.specs.declared.names.Name.TheVariants.{Cores, Limit, Words, By, Runs, Threads, Run, Turns, Expect}
use Rattle.hunt_words.specs.declared.names.Name.TheVariants.{Never, Same, See, Elf, Tso, Plain}

-- the word that names the option
abbrev pub word_of : Name → List ℕ
word_of Cores = codes "--cores"
word_of Limit = codes "--limit"
word_of Words = codes "--words"
word_of By = codes "--by"
word_of Runs = codes "--runs"
word_of Threads = codes "--threads"
word_of Run = codes "--run"
word_of Turns = codes "--turns"
word_of Expect = codes "--expect"
word_of Never = codes "--never"
word_of Same = codes "--same"
word_of See = codes "--see"
word_of Elf = codes "--elf"
word_of Tso = codes "--tso"
word_of Plain = codes "--plain"

abbrev pub names : List (List ℕ × Name)
names =
    (codes "--cores", Cores) ∷ (codes "--limit", Limit) ∷ (codes "--words", Words) ∷ (codes "--by", By)
    ∷ (codes "--runs", Runs) ∷ (codes "--threads", Threads) ∷ (codes "--run", Run) ∷ (codes "--turns", Turns)
    ∷ (codes "--expect", Expect) ∷ (codes "--never", Never) ∷ (codes "--same", Same) ∷ (codes "--see", See)
    ∷ (codes "--elf", Elf) ∷ (codes "--tso", Tso) ∷ (codes "--plain", Plain) ∷ []

-- the option that a word names
abbrev pub name_in : (word : List ℕ) → Option Name
name_in word = named_by names word
