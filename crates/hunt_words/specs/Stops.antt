-- How words behind a verb are read, one option after the other, and where they stop.
use Rattle.std.specs.Prelude.{◌≡◌, ◌≢◌, ◌⊎◌, ℕ, ◌+◌, ◌<◌, ◌≤◌, nat_lt, Bool, true, false, not, ◌||◌, List, [], ◌∷◌}
use Rattle.std.specs.Prelude.{◌++◌, length, take, drop, Option, Some, None, if◌then◌else◌}
use Rattle.hunt_words.specs.declared.faults.Why.{Why}
use Rattle.hunt_words.specs.declared.faults.Why.TheVariants.{NotAnOption, FlagWithValue, Twice, AtOdds, NoValue, Lacks}
use Rattle.hunt_words.specs.declared.hunt.Hunt.{Hunt}
use Rattle.hunt_words.specs.declared.names.Name.{Name}
use Rattle.hunt_words.specs.declared.verbs.Verb.{Verb}
use Rattle.hunt_words.specs.Faults.{Explains}
use Rattle.hunt_words.specs.Given.{Given, alone, are_each_once, given_in}
use Rattle.hunt_words.specs.Meaning.{hunt_by}
use Rattle.hunt_words.specs.Names.{name_in, word_of}
use Rattle.hunt_words.specs.Open.{has, is_open, odd_pair, one}
use Rattle.hunt_words.specs.Verbs.{is_flag, takes_value}

-- the first word that follows, which is a value
abbrev pub first_of : (following : List (List ℕ)) → Option (List ℕ × ℕ)
first_of [] = None
first_of (text ∷ rest) = Some (text, 2)

-- ---- one option

-- the verb takes the option, and with a value that is joined to it only where it has values
pub record IsTaken (verb : Verb) (option : List ℕ) (joined : Option (List ℕ)) (name : Name) : Type 0 where
  pub named : name_in option ≡ Some name
  pub takes : (takes_value verb option || is_flag verb option) ≡ true
  pub bare : (takes_value verb option ≡ true) ⊎ (joined ≡ None)

abbrev pub IsUntaken : Verb → (option : List ℕ) → (joined : Option (List ℕ)) → Why → Type 0
IsUntaken verb option joined NotAnOption = (takes_value verb option ≡ false) × (is_flag verb option ≡ false)
IsUntaken verb option joined (FlagWithValue name) =
    (name_in option ≡ Some name) × (takes_value verb option ≡ false) × (joined ≢ None)
IsUntaken verb option joined why = ⊥

-- the option can't follow these
abbrev pub Clashes : Verb → List Given → Name → Why → Type 0
Clashes verb given option (Twice twice) = (twice ≡ option) × (has option given ≡ true)
Clashes verb given option (AtOdds a b) = odd_pair verb (given ++ one option [] ∷ []) ≡ Some (a, b)
Clashes verb given option why = ⊥

-- the value of an option, and how many words both are
abbrev pub value_of : Verb → (option : List ℕ) → (joined : Option (List ℕ)) → (following : List (List ℕ))
    → Option (List ℕ × ℕ)
value_of verb option (Some text) following = Some (text, 1)
value_of verb option None following = if is_flag verb option then Some ([], 1) else first_of following

-- ---- all options

-- the words are these options, of which a hunt may still come
pub record IsCut (verb : Verb) (words : List (List ℕ)) (given : List Given) : Type 0 where
  pub gives : given_in verb words ≡ Some given
  pub once : are_each_once given ≡ true
  pub may_go_on : is_open verb given ≡ true

-- the first of the words is an option's name, whose value is the word behind it
pub record IsNamed (verb : Verb) (words : List (List ℕ)) (name : Name) : Type 0 where
  pub first : take 1 words ≡ word_of name ∷ []
  pub no_more : alone verb (word_of name) ≡ None
  pub takes : takes_value verb (word_of name) ≡ true

-- the words begin with an option, of `used` words, that isn't given and that goes together with those that are
pub record IsNext (verb : Verb) (given : List Given) (words : List (List ℕ)) (name : Name) (text : List ℕ)
    (used : ℕ) : Type 0 where
  pub within : used ≤ length words
  pub gives : given_in verb (take used words) ≡ Some (one name text ∷ [])
  pub new : has name given ≡ false
  pub goes_with : odd_pair verb (given ++ one name [] ∷ []) ≡ None
  pub words_are : (used ≡ 1) ⊎ (used ≡ 2) × IsNamed verb words name

-- what is wrong stands behind the last word, and not at one
abbrev pub is_at_end : Why → Bool
is_at_end (NoValue option) = true
is_at_end (Lacks missing) = true
is_at_end why = false

-- it is wrong of an option's name, and not of its value
abbrev pub is_of_name : Why → Bool
is_of_name NotAnOption = true
is_of_name (FlagWithValue option) = true
is_of_name (Twice option) = true
is_of_name (AtOdds a b) = true
is_of_name (NoValue option) = true
is_of_name why = false

-- the first words are no option: at which of them they stop, and why
pub record Stops (verb : Verb) (given : List Given) (words : List (List ℕ)) (place : ℕ) (why : Why) : Type 0 where
  pub within : place ≤ length words
  pub end : not (nat_lt place (length words)) ≡ is_at_end why
  pub first : place < length words → place ≡ 0
  pub of_name : is_of_name why ≡ true
  pub told : Explains verb given (take (place + 1) words) why

-- some hunt comes of the words, with others behind them
abbrev pub GoesOn : Verb → (words : List (List ℕ)) → Type 0
GoesOn verb words = (more : List (List ℕ)) × (hunt : Hunt) × (hunt_by verb (words ++ more) ≡ Some hunt)

-- the words behind a verb are options up to where they stop, and no hunt comes of them
pub record StopsAfter (verb : Verb) (words : List (List ℕ)) (place : ℕ) (why : Why) : Type 0 where
  pub given : List Given
  pub read : ℕ
  pub offset : ℕ
  pub place_is : place ≡ read + offset
  pub gives : given_in verb (take read words) ≡ Some given
  pub read_within : read ≤ length words
  pub told : Explains verb given (take (offset + 1) (drop read words)) why
  pub within : place ≤ length words
  pub none : hunt_by verb words ≡ None
  pub goes_on : GoesOn verb (take place words)
  pub stuck : place < length words → (more : List (List ℕ)) → hunt_by verb (take (place + 1) words ++ more) ≡ None
