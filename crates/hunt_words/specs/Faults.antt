-- Rule: the word of a hunt at fault, and why: IsFaultAt, Tells
-- What is wrong with words that ask for nothing. A front of a list of words is viable where some list that asks for
-- something begins with it. The word at fault is the first whose front isn't viable; where the whole list is viable and
-- still asks for nothing, the fault is at its end.
use Rattle.std.specs.Prelude.{◌≡◌, ◌≢◌, ℕ, ◌+◌, ◌-◌, ◌^◌, ◌*◌, ◌<◌, ◌≤◌, nat_le, Bool, true, false, List, []}
use Rattle.std.specs.Prelude.{◌∷◌, ◌++◌, length, take, Option, Some, None, is_some, if◌then◌else◌}
use Rattle.std.specs.List.{before_first}
use Rattle.rtr_types.specs.declared.TheConstants.{CORES_MAX}
use Rattle.rtr_types.specs.declared.params.TheConstants.{INSTRUCTIONS_MAX, LIMIT_MAX, WORDS_MAX, WORDS_MIN}
use Rattle.tool_words.specs.Numerals.{is_numeral, number_between}
use Rattle.tool_words.specs.Options.{cores_default, whole_blocks}
use Rattle.tool_words.specs.Reading.{is_equals}
use Rattle.tool_words.specs.Stops.{joined_value}
use Rattle.end_claims.specs.Reading.{claim_of, places_of}
use Rattle.hunt_words.specs.declared.faults.Fault.{Fault}
use Rattle.hunt_words.specs.declared.faults.Fault.TheVariants.{NoVerb, NotAVerb, InOptions}
use Rattle.hunt_words.specs.declared.faults.Missing.{Missing}
use Rattle.hunt_words.specs.declared.faults.Missing.TheVariants as lacking
use Rattle.hunt_words.specs.declared.faults.Why.{Why}
use Rattle.hunt_words.specs.declared.faults.Why.TheVariants.{NotAnOption, FlagWithValue, Twice, AtOdds, NoValue}
use Rattle.hunt_words.specs.declared.faults.Why.TheVariants.{OutOfRange, NoNumber, NoSuchValue}
use Rattle.hunt_words.specs.declared.faults.Why.TheVariants.{TooMany, NoMachine, Lacks}
use Rattle.hunt_words.specs.declared.names.Name.{Name}
use Rattle.hunt_words.specs.declared.names.Name.TheVariants.{Cores, Limit, Words, By, Runs, Threads, Run, Turns, Expect}
use Rattle.hunt_words.specs.declared.names.Name.TheVariants.{Never, Same, See}
use Rattle.hunt_words.specs.declared.options.TheConstants.{HUNT_THREADS_MAX}
use Rattle.hunt_words.specs.declared.verbs.Verb.{Verb}
use Rattle.hunt_words.specs.Given.{Given, given_in}
use Rattle.hunt_words.specs.Meaning.{hunt_of, meaning}
use Rattle.hunt_words.specs.Names.{name_in}
use Rattle.hunt_words.specs.Open.{has, has_machine, lacks, odd_pair, one, suits, text_of}
use Rattle.hunt_words.specs.TurnTexts.{turns_named}
use Rattle.hunt_words.specs.Values.{policy_named, range_named}
use Rattle.hunt_words.specs.Verbs.{is_flag, takes_value, verb_named}

-- ---- where

abbrev pub IsViable : (front : List (List ℕ)) → Type 0
IsViable front = (more : List (List ℕ)) × (meaning (front ++ more) ≢ None)

-- the words ask for nothing; each front of at most `place` words is viable, and the one with the word at `place` isn't,
-- where there is such a word
pub record IsFaultAt (words : List (List ℕ)) (place : ℕ) : Type 0 where
  pub means_nothing : meaning words ≡ None
  pub within : place ≤ length words
  pub viable : (k : ℕ) → k ≤ place → IsViable (take k words)
  pub stops : place < length words → IsViable (take (place + 1) words) → ⊥

-- the place that a fault names
abbrev pub place_of : Fault → ℕ
place_of NoVerb = 0
place_of NotAVerb = 0
place_of (InOptions verb place why) = place

-- ---- why

-- the name in a word, before the first `=`
abbrev pub name_part : (word : List ℕ) → List ℕ
name_part word = before_first is_equals word

-- the least and the greatest value of an option whose value is a number
abbrev pub range : Name → Option (ℕ × ℕ)
range Cores = Some (1, CORES_MAX)
range Limit = Some (1, LIMIT_MAX)
range Words = Some (WORDS_MIN, WORDS_MAX)
range Threads = Some (1, HUNT_THREADS_MAX)
range Run = Some (0, 2 ^ 64 - 1)
range other = None

-- the text is a value of the option, on some machine
abbrev pub is_readable : Name → (text : List ℕ) → Bool
is_readable Cores text = is_some (number_between 1 CORES_MAX text)
is_readable Limit text = is_some (number_between 1 LIMIT_MAX text)
is_readable Words text = is_some (whole_blocks text)
is_readable By text = is_some (policy_named text)
is_readable Runs text = is_some (range_named text)
is_readable Threads text = is_some (number_between 1 HUNT_THREADS_MAX text)
is_readable Run text = is_some (number_between 0 (2 ^ 64 - 1) text)
is_readable Turns text = is_some (turns_named text)
is_readable Expect text = is_some (claim_of text)
is_readable Never text = is_some (claim_of text)
is_readable Same text = is_some (places_of CORES_MAX text)
is_readable See text = is_some (places_of CORES_MAX text)
is_readable flag text = true

-- why a text is no value of the option
abbrev pub refusal : Name → (text : List ℕ) → Why
refusal name text = elim (range name) [
  | None ↦ NoSuchValue name
  | Some r ↦ if is_numeral text then OutOfRange name r.0 r.1 else NoNumber name
]

-- the number of cores and the limit are given, and are too many instructions together
abbrev pub AreTooMany : List Given → Type 0
AreTooMany given =
    (cores limit : List ℕ) × (n l : ℕ)
    × (text_of Cores given ≡ Some cores) × (number_between 1 CORES_MAX cores ≡ Some n)
    × (text_of Limit given ≡ Some limit) × (number_between 1 LIMIT_MAX limit ≡ Some l)
    × (nat_le (n * l) INSTRUCTIONS_MAX ≡ false)

-- why no machine suits these options and the one with the text: the cores and the limit are too many together, or no
-- machine has each core and word that is named, or the text is no value of the option
abbrev pub Refuses : List Given → Name → (text : List ℕ) → Why → Type 0
Refuses given name text TooMany = (is_readable name text ≡ true) × AreTooMany (given ++ one name text ∷ [])
Refuses given name text NoMachine = is_readable name text ≡ true
Refuses given name text why = (is_readable name text ≡ false) × (why ≡ refusal name text)

-- something is missing: what a verb must have, or cores or words of memory that are named and that there aren't by
-- default
abbrev pub IsMissing : Verb → List Given → Missing → Type 0
IsMissing verb given lacking.Cores =
    (lacks verb given ≡ None) × (has Cores given ≡ false) × (suits verb given cores_default ≡ false)
IsMissing verb given lacking.Words =
    (lacks verb given ≡ None) × (has Words given ≡ false) × (hunt_of verb given ≡ None)
IsMissing verb given missing = lacks verb given ≡ Some missing

-- why words can't go on, or can't end, where those before are a verb and these options, and the piece is what follows
-- up to the word at fault: nothing, one word, or the name of an option and its value
abbrev pub Explains : Verb → List Given → (piece : List (List ℕ)) → Why → Type 0
Explains verb given piece NotAnOption =
    (word : List ℕ) × (piece ≡ word ∷ []) × (takes_value verb (name_part word) ≡ false)
    × (is_flag verb (name_part word) ≡ false)
Explains verb given piece (FlagWithValue name) =
    (word : List ℕ) × (piece ≡ word ∷ []) × (name_in (name_part word) ≡ Some name)
    × (takes_value verb (name_part word) ≡ false) × (joined_value word ≢ None)
Explains verb given piece (Twice name) =
    (word : List ℕ) × (piece ≡ word ∷ []) × (name_in (name_part word) ≡ Some name) × (has name given ≡ true)
Explains verb given piece (AtOdds a b) =
    (word : List ℕ) × (name : Name) × (piece ≡ word ∷ []) × (name_in (name_part word) ≡ Some name)
    × (odd_pair verb (given ++ one name [] ∷ []) ≡ Some (a, b))
Explains verb given piece (NoValue name) =
    (word : List ℕ) × (piece ≡ word ∷ []) × (name_in word ≡ Some name) × (takes_value verb word ≡ true)
    × (is_flag verb word ≡ false) × (has name given ≡ false) × (odd_pair verb (given ++ one name [] ∷ []) ≡ None)
Explains verb given piece (Lacks missing) = (piece ≡ []) × IsMissing verb given missing
Explains verb given piece why =
    (name : Name) × (text : List ℕ) × (given_in verb piece ≡ Some (one name text ∷ []))
    × (has_machine verb (given ++ one name text ∷ []) ≡ false) × Refuses given name text why

-- the words up to the place: a verb, options of it, and a piece
pub record StopsAt (words : List (List ℕ)) (place : ℕ) (verb : Verb) (given : List Given)
    (piece : List (List ℕ)) : Type 0 where
  pub first : List ℕ
  pub before : List (List ℕ)
  pub words_are : take (place + 1) words ≡ first ∷ (before ++ piece)
  pub names : verb_named first ≡ Some verb
  pub gives : given_in verb before ≡ Some given

-- what a fault tells of words is so
abbrev pub Tells : List (List ℕ) → Fault → Type 0
Tells words NoVerb = words ≡ []
Tells words NotAVerb = (first : List ℕ) × (rest : List (List ℕ)) × (words ≡ first ∷ rest) × (verb_named first ≡ None)
Tells words (InOptions verb place why) =
    (given : List Given) × (piece : List (List ℕ)) × StopsAt words place verb given piece
    × Explains verb given piece why
