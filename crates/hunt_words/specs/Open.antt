-- Rule: options of which a hunt may still come: is_open
-- Options of which a hunt may still come, whatever follows them, and what is missing where none has come yet.
use Rattle.std.specs.Prelude.{ℕ, ◌*◌, ◌-◌, ◌^◌, ◌==◌, nat_le, ◌&&◌, ◌||◌, not, Bool, true, false, List, [], ◌∷◌, ◌++◌}
use Rattle.std.specs.Prelude.{Option, Some, None, find, is_some, unwrap_or, if◌then◌else◌}
use Rattle.std.specs.List.{list_all, list_any, range_with_len}
use Rattle.rtr_types.specs.declared.TheConstants.{CORES_MAX}
use Rattle.rtr_types.specs.declared.params.TheConstants.{INSTRUCTIONS_MAX, LIMIT_MAX, WORDS_MAX}
use Rattle.tool_words.specs.Numerals.{number_between}
use Rattle.tool_words.specs.Options.{whole_blocks}
use Rattle.end_claims.specs.Named.{are_named_within, are_within}
use Rattle.end_claims.specs.Reading.{claim_of, places_of}
use Rattle.hunt_words.specs.declared.names.Name.{Name}
use Rattle.hunt_words.specs.declared.names.Name.TheVariants.{Cores, Limit, Words, By, Runs, Threads, Run, Turns, Expect}
use Rattle.hunt_words.specs.declared.names.Name.TheVariants.{Never, Same, See, Elf, Tso}
use Rattle.hunt_words.specs.declared.faults.Missing.{Missing}
use Rattle.hunt_words.specs.declared.faults.Missing.TheVariants.{Demand, ARun, Number}
use Rattle.hunt_words.specs.declared.options.TheConstants.{HUNT_THREADS_MAX}
use Rattle.hunt_words.specs.declared.verbs.Verb.{Verb}
use Rattle.hunt_words.specs.declared.verbs.Verb.TheVariants as verbs
use Rattle.hunt_words.specs.Given.{Given, has_option, text_at}
use Rattle.hunt_words.specs.Names.{word_of}
use Rattle.hunt_words.specs.TurnTexts.{turns_named}
use Rattle.hunt_words.specs.Values.{policy_named, range_named}

-- an option of this name with this text
abbrev pub one : Name → (text : List ℕ) → Given
one name text = record { name = word_of name; text = text }

-- the text of the option, where it is given
abbrev pub text_of : Name → List Given → Option (List ℕ)
text_of name given = text_at (word_of name) given

abbrev pub has : Name → List Given → Bool
has name given = has_option (word_of name) given

-- ---- values

-- there is a value, and it passes
abbrev pub passes : {A : Type 0} → (A → Bool) → Option A → Bool
passes test None = false
passes test (Some value) = test value

-- the text is a value of the option, on a machine with so many cores and words
abbrev pub is_value : (cores words : ℕ) → Name → (text : List ℕ) → Bool
is_value cores words Cores text = passes (λ n. n == cores) (number_between 1 CORES_MAX text)
is_value cores words Limit text = passes (λ n. nat_le (cores * n) INSTRUCTIONS_MAX) (number_between 1 LIMIT_MAX text)
is_value cores words Words text = passes (λ n. n == words) (whole_blocks text)
is_value cores words By text = is_some (policy_named text)
is_value cores words Runs text = is_some (range_named text)
is_value cores words Threads text = is_some (number_between 1 HUNT_THREADS_MAX text)
is_value cores words Run text = is_some (number_between 0 (2 ^ 64 - 1) text)
is_value cores words Turns text = is_some (turns_named text)
is_value cores words Expect text = passes (are_named_within cores words) (claim_of text)
is_value cores words Never text = passes (are_named_within cores words) (claim_of text)
is_value cores words Same text = passes (are_within cores words) (places_of cores text)
is_value cores words See text = passes (are_within cores words) (places_of cores text)
is_value cores words flag text = true

-- a text that isn't given stands in nothing's way
abbrev pub is_value_or : (cores words : ℕ) → Name → Option (List ℕ) → Bool
is_value_or cores words option None = true
is_value_or cores words option (Some text) = is_value cores words option text

-- the options of a verb that have values
abbrev pub valued_of : Verb → List Name
valued_of verbs.First = Cores ∷ Limit ∷ Words ∷ By ∷ Runs ∷ Threads ∷ Expect ∷ Never ∷ Same ∷ []
valued_of verbs.Table = Cores ∷ Limit ∷ Words ∷ By ∷ Runs ∷ Threads ∷ Expect ∷ Never ∷ See ∷ []
valued_of verbs.Small = Cores ∷ Limit ∷ Words ∷ By ∷ Run ∷ Turns ∷ Expect ∷ Never ∷ []
valued_of verbs.Words = Cores ∷ Limit ∷ Words ∷ By ∷ Run ∷ Turns ∷ []
valued_of verbs.Record = Cores ∷ Limit ∷ Words ∷ By ∷ Run ∷ Turns ∷ []

-- the words of memory that the options name, or the most that there may be
abbrev pub most_words : List Given → ℕ
most_words given = elim (text_of Words given) [ None ↦ WORDS_MAX | Some text ↦ unwrap_or (whole_blocks text) WORDS_MAX ]

-- each option has a value on a machine with so many cores
abbrev pub suits : Verb → List Given → (cores : ℕ) → Bool
suits verb given cores =
    list_all (λ name. is_value_or cores (most_words given) name (text_of name given)) (valued_of verb)

-- some machine suits
abbrev pub has_machine : Verb → List Given → Bool
has_machine verb given = list_any (suits verb given) (range_with_len 1 CORES_MAX)

-- ---- options that don't go together

abbrev pub demanding_pairs : List (Name × Name)
demanding_pairs = (Expect, Never) ∷ (Expect, Same) ∷ (Never, Same) ∷ []

abbrev pub run_pairs : List (Name × Name)
run_pairs = (Run, Turns) ∷ (By, Turns) ∷ []

-- of each of these pairs a verb takes one at most
abbrev pub pairs : Verb → List (Name × Name)
pairs verbs.First = (Elf, Tso) ∷ demanding_pairs
pairs verbs.Table = (Elf, Tso) ∷ demanding_pairs
pairs verbs.Small = (Elf, Tso) ∷ (demanding_pairs ++ run_pairs)
pairs verbs.Words = (Elf, Tso) ∷ run_pairs
pairs verbs.Record = (Elf, Tso) ∷ run_pairs

-- both are given
abbrev pub are_both : List Given → Name × Name → Bool
are_both given pair = has pair.0 given && has pair.1 given

-- the first of these pairs that is given
abbrev pub odd_pair : Verb → List Given → Option (Name × Name)
odd_pair verb given = find (are_both given) (pairs verb)

-- ---- what a hunt may come of

abbrev pub is_open : Verb → List Given → Bool
is_open verb given = not (is_some (odd_pair verb given)) && has_machine verb given

-- what is missing of a run's name
abbrev pub lacks_run : List Given → Option Missing
lacks_run given = if has Run given || has Turns given then None else if has By given then Some Number else Some ARun

-- what is missing of options that are open
abbrev pub lacks : Verb → List Given → Option Missing
lacks verbs.First given = if has Expect given || has Never given || has Same given then None else Some Demand
lacks verbs.Table given = if has Expect given || has Never given || has See given then None else Some Demand
lacks verbs.Small given =
    elim (lacks_run given) [
      | Some missing ↦ Some missing
      | None ↦ if has Expect given || has Never given then None else Some Demand
    ]
lacks verbs.Words given = lacks_run given
lacks verbs.Record given = lacks_run given
