-- The options that words give, as texts.
use Rattle.std.specs.Prelude.{ℕ, Bool, true, ◌&&◌, not, List, [], ◌∷◌, Option, Some, None, is_some, if◌then◌else◌}
use Rattle.std.specs.List.{before_first}
use Rattle.std.specs.Option.{option_map}
use Rattle.std.specs.Str.{bytes_eq}
use Rattle.tool_words.specs.Reading.{is_equals}
use Rattle.tool_words.specs.Stops.{joined_value}
use Rattle.hunt_words.specs.declared.verbs.Verb.{Verb}
use Rattle.hunt_words.specs.Verbs.{is_flag, takes_value}

-- an option by its word, and the text of its value, which is empty for a flag
pub record Given : Type 0 where
  pub name : List ℕ
  pub text : List ℕ

-- the option of this name with this value
abbrev pub valued : Verb → (name text : List ℕ) → Option Given
valued verb name text = if takes_value verb name then Some (record { name = name; text = text }) else None

abbrev pub flag : Verb → (name : List ℕ) → Option Given
flag verb name = if is_flag verb name then Some (record { name = name; text = [] }) else None

-- the option that a word makes by itself: a name and its value joined by the first `=`, or a flag
abbrev pub alone : Verb → (word : List ℕ) → Option Given
alone verb word = elim (joined_value word) [
  | Some text ↦ valued verb (before_first is_equals word) text
  | None ↦ flag verb (before_first is_equals word)
]

-- an option, and then others
abbrev pub prepend : Option Given → Option (List Given) → Option (List Given)
prepend None others = None
prepend (Some one) others = option_map (λ more. one ∷ more) others

-- the options that words give: each is a word by itself, or a name and the word after it
unfoldable pub given_in : Verb → (words : List (List ℕ)) → Option (List Given)
given_in verb [] = Some []
given_in verb (word ∷ []) = prepend (alone verb word) (Some [])
given_in verb (word ∷ next ∷ rest) =
    if is_some (alone verb word) then prepend (alone verb word) (given_in verb (next ∷ rest))
    else prepend (valued verb word next) (given_in verb rest)

-- the text of the option of this name, where it is given
abbrev pub text_at : (name : List ℕ) → List Given → Option (List ℕ)
text_at name [] = None
text_at name (one ∷ more) = if bytes_eq one.name name then Some one.text else text_at name more

abbrev pub has_option : (name : List ℕ) → List Given → Bool
has_option name given = is_some (text_at name given)

-- no option is given twice
abbrev pub are_each_once : List Given → Bool
are_each_once [] = true
are_each_once (one ∷ more) = not (has_option one.name more) && are_each_once more
