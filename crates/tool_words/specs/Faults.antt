-- Rule: the word at fault, and why: IsFaultAt, Tells
-- What is wrong with words that mean nothing. A front of a list of words is viable where some list that means a command
-- begins with it. The word at fault is the first whose front isn't viable; where the whole list is viable and still means
-- nothing, the fault is at its end.
use Rattle.std.specs.Prelude.{◌≡◌, ◌≢◌, ℕ, ◌+◌, ◌-◌, ◌^◌, ◌<◌, ◌≤◌, nat_lt, Bool, true, false, not, List, [], ◌∷◌, ◌++◌}
use Rattle.std.specs.Prelude.{length, take, Option, Some, None, find, if◌then◌else◌}
use Rattle.std.specs.List.{before_first, position_or_len}
use Rattle.rtr_types.specs.declared.TheConstants.{CORES_MAX}
use Rattle.rtr_types.specs.declared.params.TheConstants.{LIMIT_MAX, WORDS_MIN, WORDS_MAX}
use Rattle.trace_gen.specs.Programs.{takes}
use Rattle.tool_words.specs.declared.command.Verb.{Verb}
use Rattle.tool_words.specs.declared.command.Verb.TheVariants.{Gen, Soak, At}
use Rattle.tool_words.specs.declared.options.Name.{Name}
use Rattle.tool_words.specs.declared.options.Name.TheVariants.{Cores, Limit, Words, Seed, Shape, Number, Core, Count}
use Rattle.tool_words.specs.declared.options.Name.TheVariants.{Threads}
use Rattle.tool_words.specs.declared.faults.Fault.{Fault}
use Rattle.tool_words.specs.declared.faults.Fault.TheVariants.{NoCommand, NotACommand, InOptions}
use Rattle.tool_words.specs.declared.faults.Why.{Why}
use Rattle.tool_words.specs.declared.faults.Why.TheVariants.{NotAnOption, Twice, FlagWithValue, OutOfRange, NoNumber}
use Rattle.tool_words.specs.declared.faults.Why.TheVariants.{NoSuchValue, TooMany, NoImage, NoValue, Lacks}
use Rattle.tool_words.specs.Settings.{Settings}
use Rattle.tool_words.specs.Numerals.{is_numeral}
use Rattle.tool_words.specs.Commands.{verb_named}
use Rattle.tool_words.specs.Options.{are_together_few, is_set, no_settings, option_of, put_new, takes_value, threads_max}
use Rattle.tool_words.specs.Reading.{Set, is_equals, meaning, settings, settled_by}

-- ---- where

abbrev pub IsViable : (front : List (List ℕ)) → Type 0
IsViable front = (more : List (List ℕ)) × (meaning (front ++ more) ≢ None)

-- the words mean nothing; each front of at most `place` words is viable, and the one with the word at `place` isn't,
-- where there is such a word
pub record IsFaultAt (words : List (List ℕ)) (place : ℕ) : Type 0 where
  pub means_nothing : meaning words ≡ None
  pub within : place ≤ length words
  pub viable : (k : ℕ) → k ≤ place → IsViable (take k words)
  pub stops : place < length words → IsViable (take (place + 1) words) → ⊥

-- the place that a fault names
abbrev pub place_of : Fault → ℕ
place_of NoCommand = 0
place_of NotACommand = 0
place_of (InOptions command place why) = place

-- ---- settings that a command may still come of

-- the shape has an image of the number, as far as both are set
abbrev pub may_have_image : Settings → Bool
may_have_image s = elim s.shape [ None ↦ true | Some shape ↦ elim s.number [ None ↦ true | Some number ↦ takes shape number ] ]

pub record IsOpen (s : Settings) : Type 0 where
  pub few : are_together_few s ≡ true
  pub image : may_have_image s ≡ true

-- the options that a command must have
abbrev pub needs : Verb → List Name
needs Gen = Shape ∷ Number ∷ []
needs Soak = Shape ∷ Number ∷ []
needs At = Core ∷ Count ∷ []
needs verb = []

-- the first of them that isn't set
abbrev pub lacks : Verb → Settings → Option Name
lacks verb s = find (λ name. not (is_set s name)) (needs verb)

-- ---- why

-- a value is joined to the word's name by `=`
abbrev pub has_value : (word : List ℕ) → Bool
has_value word = nat_lt (position_or_len is_equals word) (length word)

-- the option of the command that the word names, with a value or without
abbrev pub option_in : Verb → (word : List ℕ) → Option Name
option_in verb word = option_of verb (before_first is_equals word)

-- the least and the greatest value of an option whose value is a number
abbrev pub range : Name → Option (ℕ × ℕ)
range Cores = Some (1, CORES_MAX)
range Limit = Some (1, LIMIT_MAX)
range Words = Some (WORDS_MIN, WORDS_MAX)
range Seed = Some (0, 2 ^ 64 - 1)
range Number = Some (0, 2 ^ 64 - 1)
range Core = Some (0, CORES_MAX - 1)
range Count = Some (1, LIMIT_MAX)
range Threads = Some (1, threads_max)
range name = None

-- why a text is no value of the option
abbrev pub refusal : Name → (text : List ℕ) → Why
refusal name text = elim (range name) [
  | None ↦ NoSuchValue name
  | Some r ↦ if is_numeral text then OutOfRange name r.0 r.1 else NoNumber name
]

-- why an option that isn't set can't be set so: with it the cores and the limit are too many together, or there is no
-- such image, or the text is no value of it
abbrev pub Refuses : Settings → Name → (text : List ℕ) → Why → Type 0
Refuses s name text TooMany = (t : Settings) × (put_new s name text ≡ Some t) × (are_together_few t ≡ false)
Refuses s name text NoImage = (t : Settings) × (put_new s name text ≡ Some t) × (may_have_image t ≡ false)
Refuses s name text why = (put_new s name text ≡ None) × (why ≡ refusal name text)

-- why words can't go on, or can't end, where those before are a command and options that come to s, and the piece is what
-- follows up to the word at fault: nothing, one word, or the name of an option and its value
abbrev pub Explains : Verb → Settings → (piece : List (List ℕ)) → Why → Type 0
Explains verb s piece NotAnOption = (word : List ℕ) × (piece ≡ word ∷ []) × (option_in verb word ≡ None)
Explains verb s piece (Twice name) =
    (word : List ℕ) × (piece ≡ word ∷ []) × (option_in verb word ≡ Some name) × (is_set s name ≡ true)
Explains verb s piece (FlagWithValue name) =
    (word : List ℕ) × (piece ≡ word ∷ []) × (option_in verb word ≡ Some name) × (takes_value name ≡ false)
    × (has_value word ≡ true)
Explains verb s piece (NoValue name) =
    (word : List ℕ) × (piece ≡ word ∷ []) × (option_of verb word ≡ Some name) × (takes_value name ≡ true)
    × (is_set s name ≡ false)
Explains verb s piece (Lacks name) = (piece ≡ []) × (lacks verb s ≡ Some name)
Explains verb s piece why =
    (set : Set) × (settings verb piece ≡ Some (set ∷ [])) × (is_set s set.name ≡ false)
    × Refuses s set.name set.text why

-- the words up to the place: a command, options of it that come to the settings, and a piece
pub record StopsAt (words : List (List ℕ)) (place : ℕ) (verb : Verb) (s : Settings) (piece : List (List ℕ)) : Type 0 where
  pub first : List ℕ
  pub before : List (List ℕ)
  pub words_are : take (place + 1) words ≡ first ∷ (before ++ piece)
  pub names : verb_named first ≡ Some verb
  pub set : settled_by verb no_settings before ≡ Some s

-- what a fault tells of words is so
abbrev pub Tells : List (List ℕ) → Fault → Type 0
Tells words NoCommand = words ≡ []
Tells words NotACommand = (first : List ℕ) × (rest : List (List ℕ)) × (words ≡ first ∷ rest) × (verb_named first ≡ None)
Tells words (InOptions verb place why) =
    (s : Settings) × (piece : List (List ℕ)) × StopsAt words place verb s piece × Explains verb s piece why
