-- Rule: the meaning of words: meaning
-- What words mean: they are cut into settings, which are put in one after the other.
use Rattle.std.specs.Prelude.{◌≡◌, ℕ, nat_lt, List, [], ◌∷◌, length, Option, Some, None, is_some, ◌==◌, Bool}
use Rattle.std.specs.Prelude.{if◌then◌else◌}
use Rattle.std.specs.Option.{option_and_then, option_map}
use Rattle.std.specs.List.{before_first, after_first, position_or_len}
use Rattle.tool_words.specs.declared.command.Command.{Command}
use Rattle.tool_words.specs.declared.command.Verb.{Verb}
use Rattle.tool_words.specs.declared.options.Name.{Name}
use Rattle.tool_words.specs.Settings.{Settings}
use Rattle.tool_words.specs.Commands.{HasFittingParams, command_of, verb_named}
use Rattle.tool_words.specs.Options.{are_together_few, no_settings, option_of, put, takes_value}

-- one option and the text of its value, which is empty for a flag
pub record Set : Type 0 where
  pub name : Name
  pub text : List ℕ

-- `=`
abbrev pub is_equals : ℕ → Bool
is_equals b = b == 61

-- the setting of an option that takes a value
abbrev pub valued : Verb → (name text : List ℕ) → Option Set
valued verb word text =
    option_and_then (λ name. if takes_value name then Some (record { name = name; text = text }) else None)
    (option_of verb word)

-- the setting of a flag
abbrev pub flag : Verb → List ℕ → Option Set
flag verb word = option_and_then (λ name. if takes_value name then None else Some (record { name = name; text = [] }))
    (option_of verb word)

-- the setting that a word makes by itself: a name and its value joined by the first `=`, or a flag
abbrev pub alone : Verb → List ℕ → Option Set
alone verb word =
    if nat_lt (position_or_len is_equals word) (length word) then valued verb (before_first is_equals word)
    (after_first is_equals word) else flag verb word

-- a setting, and then others
abbrev pub prepend : Option Set → Option (List Set) → Option (List Set)
prepend setting others = option_and_then (λ s. option_map (λ rest. s ∷ rest) others) setting

-- the words cut into settings: each is a word by itself, or a name and the word after it
unfoldable pub settings : Verb → List (List ℕ) → Option (List Set)
settings verb [] = Some []
settings verb (word ∷ []) = prepend (alone verb word) (Some [])
settings verb (word ∷ next ∷ rest) =
    if is_some (alone verb word) then prepend (alone verb word) (settings verb (next ∷ rest)) else prepend
    (valued verb word next) (settings verb rest)

-- the settings put in one after the other
abbrev pub settled : Settings → List Set → Option Settings
settled s [] = Some s
settled s (set ∷ rest) = option_and_then (λ t. settled t rest) (put s set.name set.text)

-- what the settings come to after these words
unfoldable pub settled_by : Verb → Settings → List (List ℕ) → Option Settings
settled_by verb s words = option_and_then (settled s) (settings verb words)

-- the settings that words come to; none where the cores and the limit are too many instructions together
abbrev pub few_together : Settings → Option Settings
few_together s = if are_together_few s then Some s else None

-- the command that the words mean
abbrev pub meaning : List (List ℕ) → Option Command
meaning [] = None
meaning (first ∷ rest) =
    option_and_then
    (λ verb. option_and_then (command_of verb) (option_and_then few_together (settled_by verb no_settings rest)))
    (verb_named first)

-- what words mean has parameters in their ranges, an image of the shape and number that it names, an instruction that
-- may be, and a number of threads that may be
abbrev pub FittingLaw : Type 0
FittingLaw = (words : List (List ℕ)) (command : Command) → meaning words ≡ Some command → HasFittingParams command
