-- How words after a command are read, one setting after the other, and where they stop.
use Rattle.std.specs.Prelude.{◌≡◌, ℕ, ◌+◌, ◌≤◌, nat_lt, Bool, true, false, not, List, [], ◌∷◌, length, take, drop}
use Rattle.std.specs.Prelude.{Option, Some, None, Result, Ok, Err, if◌then◌else◌}
use Rattle.std.specs.List.{after_first}
use Rattle.tool_words.specs.declared.command.Verb.{Verb}
use Rattle.tool_words.specs.declared.options.Name.{Name}
use Rattle.tool_words.specs.declared.faults.Why.{Why}
use Rattle.tool_words.specs.declared.faults.Why.TheVariants.{NotAnOption, Twice, FlagWithValue, NoValue, Lacks}
use Rattle.tool_words.specs.Settings.{Settings}
use Rattle.tool_words.specs.Options.{is_set, no_settings, option_of, takes_value}
use Rattle.tool_words.specs.Reading.{is_equals, settled_by}
use Rattle.tool_words.specs.Faults.{Explains, IsOpen, has_value, lacks}

-- the value that `=` joins to a name
abbrev pub joined_value : (word : List ℕ) → Option (List ℕ)
joined_value word = if has_value word then Some (after_first is_equals word) else None

-- the option that a word names, which isn't set
abbrev pub unset : Verb → Settings → (word : List ℕ) → Result Name Why
unset verb s word = elim (option_of verb word) [
  | None ↦ Err NotAnOption
  | Some name ↦ if is_set s name then Err (Twice name) else Ok name
]

-- the value of an option, and how many words both are: joined to its name, or the next word; a flag's is empty
abbrev pub value_of : Name → (joined : Option (List ℕ)) → (following : List (List ℕ)) → Result (List ℕ × ℕ) (ℕ × Why)
value_of name joined following = elim (takes_value name) [
  | true ↦ elim joined [
    | Some text ↦ Ok (text, 1)
    | None ↦ elim following [ [] ↦ Err (1, NoValue name) | text ∷ rest ↦ Ok (text, 2) ]
  ]
  | false ↦ elim joined [ None ↦ Ok ([], 1) | Some text ↦ Err (0, FlagWithValue name) ]
]

-- the first words set an option, and `used` of them do; what the settings come to then
pub record Sets (verb : Verb) (s : Settings) (words : List (List ℕ)) (t : Settings) (used : ℕ) : Type 0 where
  pub some : 1 ≤ used
  pub within : used ≤ length words
  pub set : settled_by verb s (take used words) ≡ Some t
  pub may_go_on : IsOpen t

-- what is wrong stands behind the last word, and not at one
abbrev pub is_at_end : Why → Bool
is_at_end (NoValue name) = true
is_at_end (Lacks name) = true
is_at_end why = false

-- the first words set no option: at which of them they stop, and why
pub record Stops (verb : Verb) (s : Settings) (words : List (List ℕ)) (place : ℕ) (why : Why) : Type 0 where
  pub within : place ≤ length words
  pub end : not (nat_lt place (length words)) ≡ is_at_end why
  pub told : Explains verb s (take (place + 1) words) why

-- the words after a command are options that come to s, up to where they stop
pub record StopsAfter (verb : Verb) (words : List (List ℕ)) (place : ℕ) (why : Why) : Type 0 where
  pub s : Settings
  pub read : ℕ
  pub offset : ℕ
  pub place_is : place ≡ read + offset
  pub within : read ≤ length words
  pub set : settled_by verb no_settings (take read words) ≡ Some s
  pub may_go_on : IsOpen s
  pub stops : Stops verb s (drop read words) offset why

-- the words after a command are options that come to s, and none is lacking
pub record IsWhole (verb : Verb) (words : List (List ℕ)) (s : Settings) : Type 0 where
  pub set : settled_by verb no_settings words ≡ Some s
  pub may_go_on : IsOpen s
  pub lacks_none : lacks verb s ≡ None
