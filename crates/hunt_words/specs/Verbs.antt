-- The verbs, and which options each takes.
use Rattle.std.specs.Prelude.{ℕ, Bool, ◌||◌, List, [], ◌∷◌, Option, codes}
use Rattle.std.specs.List.{list_any}
use Rattle.std.specs.Str.{bytes_eq}
use Rattle.tool_words.specs.Names.{named_by}
use Rattle.hunt_words.specs.declared.verbs.Verb.{Verb}
use Rattle.hunt_words.specs.declared.verbs.Verb.TheVariants.{First, Table, Small, Words, Record}

-- the verbs by their words
abbrev pub verbs : List (List ℕ × Verb)
verbs =
    (codes "first", First) ∷ (codes "table", Table) ∷ (codes "small", Small) ∷ (codes "words", Words)
    ∷ (codes "record", Record) ∷ []

-- the verb that a word names
abbrev pub verb_named : List ℕ → Option Verb
verb_named word = named_by verbs word

-- the options with a value that each verb takes
abbrev pub shared_options : List (List ℕ)
shared_options = codes "--cores" ∷ codes "--limit" ∷ codes "--words" ∷ codes "--by" ∷ []

-- those that a verb takes beside these
abbrev pub own_options : Verb → List (List ℕ)
own_options First =
    codes "--runs" ∷ codes "--threads" ∷ codes "--expect" ∷ codes "--never" ∷ codes "--same" ∷ []
own_options Table =
    codes "--runs" ∷ codes "--threads" ∷ codes "--expect" ∷ codes "--never" ∷ codes "--see" ∷ []
own_options Small = codes "--run" ∷ codes "--turns" ∷ codes "--expect" ∷ codes "--never" ∷ []
own_options Words = codes "--run" ∷ codes "--turns" ∷ []
own_options Record = codes "--run" ∷ codes "--turns" ∷ []

-- the flags that a verb takes
abbrev pub flags : Verb → List (List ℕ)
flags First = codes "--elf" ∷ codes "--tso" ∷ codes "--plain" ∷ []
flags verb = codes "--elf" ∷ codes "--tso" ∷ []

abbrev pub is_own : Verb → (word : List ℕ) → Bool
is_own verb word = list_any (bytes_eq word) (own_options verb)

-- the word names an option of the verb that has a value
abbrev pub takes_value : Verb → (word : List ℕ) → Bool
takes_value verb word = list_any (bytes_eq word) shared_options || is_own verb word

-- the word names a flag of the verb
abbrev pub is_flag : Verb → (word : List ℕ) → Bool
is_flag verb word = list_any (bytes_eq word) (flags verb)
