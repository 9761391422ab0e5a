-- Rule: what is told of words that mean nothing: fault_told
-- What a person is told of words that mean nothing: which word is at fault and why, and how commands are used.
use Rattle.std.specs.Prelude.{◌≡◌, ℕ, List, [], ◌∷◌, ◌++◌, Option, Some, None, codes, decimal, slice_get, if◌then◌else◌}
use Rattle.rtr_types.specs.declared.params.TheConstants.{INSTRUCTIONS_MAX}
use Rattle.tool_words.specs.declared.options.Name.{Name}
use Rattle.tool_words.specs.declared.options.Name.TheVariants.{Choices, Log, Words}
use Rattle.tool_words.specs.declared.faults.Fault.{Fault}
use Rattle.tool_words.specs.declared.faults.Fault.TheVariants.{NoCommand, NotACommand, InOptions}
use Rattle.tool_words.specs.declared.faults.Why.{Why}
use Rattle.tool_words.specs.declared.faults.Why.TheVariants.{NotAnOption, Twice, FlagWithValue, OutOfRange, NoNumber}
use Rattle.tool_words.specs.declared.faults.Why.TheVariants.{NoSuchValue, TooMany, NoImage, NoValue, Lacks}
use Rattle.tool_words.specs.Faults.{IsFaultAt, Tells, place_of}
use Rattle.command_line.specs.Uses.{line, option_word, table, use_line}

-- the values that aren't numbers, by their option
abbrev pub values_told : Name → List ℕ
values_told Choices = codes "pairs of the digits 0 to 9 and a to f"
values_told Log = codes "reduced or regulated"
values_told name = codes "mix or lock"

-- what comes before a range
abbrev pub range_begins : Name → List ℕ
range_begins Words = codes " takes a multiple of 4 from "
range_begins name = codes " takes "

abbrev pub why_told : Why → List ℕ
why_told NotAnOption = codes "the command has no such option"
why_told (Twice name) = option_word name ++ codes " is set twice"
why_told (FlagWithValue name) = option_word name ++ codes " takes no value"
why_told (OutOfRange name least most) =
    option_word name ++ range_begins name ++ decimal least ++ codes " to " ++ decimal most
why_told (NoNumber name) = option_word name ++ codes " takes a number"
why_told (NoSuchValue name) = option_word name ++ codes " takes " ++ values_told name
why_told TooMany = codes "the cores times the limit are more than " ++ decimal INSTRUCTIONS_MAX
why_told NoImage = codes "the shape has no image of the number"
why_told (NoValue name) = option_word name ++ codes " lacks its value"
why_told (Lacks name) = option_word name ++ codes " is missing"

-- the word at fault, where one is, and then why
abbrev pub placed : (word : Option (List ℕ)) → (why : List ℕ) → List ℕ
placed None why = line (codes "rtr: " ++ why)
placed (Some word) why = line (codes "rtr: " ++ word ++ codes ": " ++ why)

abbrev pub fault_line : (words : List (List ℕ)) → Fault → List ℕ
fault_line words NoCommand = placed None (codes "no command is given")
fault_line words NotACommand = placed (slice_get words 0) (codes "no such command")
fault_line words (InOptions verb place why) = placed (slice_get words place) (why_told why)

-- how the command is used that was meant, or where none was, how each is
abbrev pub uses_told : Fault → List ℕ
uses_told NoCommand = table
uses_told NotACommand = table
uses_told (InOptions verb place why) = use_line verb

abbrev pub fault_told : (words : List (List ℕ)) → Fault → List ℕ
fault_told words fault = fault_line words fault ++ uses_told fault

-- the text tells the fault of the words
pub record IsTold (words : List (List ℕ)) (text : List ℕ) : Type 0 where
  pub fault : Fault
  pub first : IsFaultAt words (place_of fault)
  pub why : Tells words fault
  pub is : text ≡ fault_told words fault
