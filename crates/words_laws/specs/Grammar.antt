-- The words of a command line by their grammar: the command, and then settings, each spelled by one word or by two.
use Rattle.std.specs.Prelude.{◌≡◌, ℕ, ◌⊎◌, IsTrue, List, [], ◌∷◌, ◌++◌, Option, Some, codes}
use Rattle.std.specs.Option.{option_and_then}
use Rattle.tool_words.specs.declared.command.Command.{Command}
use Rattle.tool_words.specs.Commands.{command_of, verb_named}
use Rattle.tool_words.specs.Options.{are_together_few, no_settings}
use Rattle.tool_words.specs.Reading.{Set, flag, settled, valued}
use Rattle.tool_words.specs.Settings.{Settings}

-- the setting that a command takes, of the option of this name, with the text as its value
abbrev pub value_set : (command name text : List ℕ) → Option Set
value_set command name text = option_and_then (λ verb. valued verb name text) (verb_named command)

-- the setting that a command takes, of the flag of this name
abbrev pub flag_set : (command name : List ℕ) → Option Set
flag_set command name = option_and_then (λ verb. flag verb name) (verb_named command)

-- the name and the value in one word, joined by `=`
abbrev pub joined : (name text : List ℕ) → List (List ℕ)
joined name text = (name ++ (codes "=" ++ text)) ∷ []

-- the name, and the value in a word of its own
abbrev pub apart : (name text : List ℕ) → List (List ℕ)
apart name text = name ∷ text ∷ []

-- the words spell this setting of the command: a name and its value, joined or apart, or a flag alone
abbrev pub Spells : (command : List ℕ) → (piece : List (List ℕ)) → Set → Type 0
Spells command piece set = (name : List ℕ) ×
    (((value_set command name set.text ≡ Some set) × ((piece ≡ joined name set.text) ⊎ (piece ≡ apart name set.text)))
    ⊎ ((flag_set command name ≡ Some set) × (piece ≡ name ∷ [])))

-- the words spell these settings of the command, one after the other
abbrev pub AreSpelled : (command : List ℕ) → (words : List (List ℕ)) → List Set → Type 0
AreSpelled command words [] = words ≡ []
AreSpelled command words (set ∷ rest) = (piece : List (List ℕ)) × (more : List (List ℕ)) × (words ≡ piece ++ more)
    × Spells command piece set × AreSpelled command more rest

-- the words are a command and settings that it takes, which can be put in one after the other (each is a value of its
-- option, which wasn't set before), are not too many instructions together, and make this command
pub record Says (words : List (List ℕ)) (command : Command) : Type 0 where
  pub first : List ℕ
  pub rest : List (List ℕ)
  pub words_are : words ≡ first ∷ rest
  pub sets : List Set
  pub spelled : AreSpelled first rest sets
  pub settings : Settings
  pub put_in : settled no_settings sets ≡ Some settings
  pub few : IsTrue (are_together_few settings)
  pub makes : option_and_then (λ verb. command_of verb settings) (verb_named first) ≡ Some command
