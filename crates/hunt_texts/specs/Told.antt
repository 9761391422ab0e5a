-- Rule: what is told of words that ask for no hunt: fault_told
-- What a person is told of words that ask for nothing: which word is at fault and why, and how verbs are used.
use Rattle.std.specs.Prelude.{◌≡◌, ℕ, List, [], ◌∷◌, ◌++◌, Option, Some, None, codes, decimal, slice_get}
use Rattle.rtr_types.specs.declared.params.TheConstants.{INSTRUCTIONS_MAX}
use Rattle.hunt_words.specs.declared.faults.Fault.{Fault}
use Rattle.hunt_words.specs.declared.faults.Fault.TheVariants.{NoVerb, NotAVerb, InOptions}
use Rattle.hunt_words.specs.declared.faults.Missing.{Missing}
use Rattle.hunt_words.specs.declared.faults.Missing.TheVariants as lacking
use Rattle.hunt_words.specs.declared.faults.Why.{Why}
use Rattle.hunt_words.specs.declared.faults.Why.TheVariants.{NotAnOption, FlagWithValue, Twice, AtOdds, NoValue}
use Rattle.hunt_words.specs.declared.faults.Why.TheVariants.{OutOfRange, NoNumber, NoSuchValue}
use Rattle.hunt_words.specs.declared.faults.Why.TheVariants.{TooMany, NoMachine, Lacks}
use Rattle.hunt_words.specs.declared.names.Name.{Name}
use Rattle.hunt_words.specs.declared.names.Name.TheVariants as options
use Rattle.hunt_words.specs.declared.verbs.Verb.{Verb}
use Rattle.hunt_words.specs.declared.verbs.Verb.TheVariants as verbs
use Rattle.hunt_words.specs.Faults.{IsFaultAt, Tells, place_of}
use Rattle.hunt_words.specs.Names.{word_of}
use Rattle.hunt_texts.specs.Uses.{line, table, use_line}

-- the values that aren't numbers, by their option
abbrev pub values_told : Name → List ℕ
values_told options.By = codes "seed, few, walk, pct1 to pct9, mixed or all"
values_told options.Runs = codes "A..B, where A is at most B"
values_told options.Turns = codes "- for none, or turns as 0*4,w1*2"
values_told options.Same = codes "places as [40],0:x5,1:stop or stops"
values_told options.See = codes "places as [40],0:x5,1:stop or stops"
values_told _ = codes "a claim as [40]=2,all:exit|0:x5<[44]"

-- what comes before a range
abbrev pub range_begins : Name → List ℕ
range_begins options.Words = codes " takes a multiple of 4 from "
range_begins _ = codes " takes "

-- what a verb lacks
abbrev pub missing_told : Verb → Missing → List ℕ
missing_told verbs.First lacking.Demand = codes "--expect, --never or --same is missing"
missing_told verbs.Table lacking.Demand = codes "--see, --expect or --never is missing"
missing_told verb lacking.Demand = codes "--expect or --never is missing"
missing_told verb lacking.ARun = codes "--run or --turns is missing"
missing_told verb lacking.Number = codes "--run is missing"
missing_told verb lacking.Cores = codes "a run has one core by default, and more are named: --cores is missing"
missing_told verb lacking.Words = codes "a word is named that there isn't by default: --words is missing"

abbrev pub why_told : Verb → Why → List ℕ
why_told verb NotAnOption = codes "the command has no such option"
why_told verb (FlagWithValue name) = word_of name ++ codes " takes no value"
why_told verb (Twice name) = word_of name ++ codes " is set twice"
why_told verb (AtOdds a b) = word_of a ++ codes " and " ++ word_of b ++ codes " don't go together"
why_told verb (NoValue name) = word_of name ++ codes " lacks its value"
why_told verb (OutOfRange name least most) =
    word_of name ++ range_begins name ++ decimal least ++ codes " to " ++ decimal most
why_told verb (NoNumber name) = word_of name ++ codes " takes a number"
why_told verb (NoSuchValue name) = word_of name ++ codes " takes " ++ values_told name
why_told verb TooMany = codes "the cores times the limit are more than " ++ decimal INSTRUCTIONS_MAX
why_told verb NoMachine = codes "no machine with these options has each core and word that is named"
why_told verb (Lacks missing) = missing_told verb missing

-- the word at fault, where one is, and then why
abbrev pub placed : (word : Option (List ℕ)) → (why : List ℕ) → List ℕ
placed None why = line (codes "rtr: " ++ why)
placed (Some word) why = line (codes "rtr: " ++ word ++ codes ": " ++ why)

abbrev pub fault_line : (words : List (List ℕ)) → Fault → List ℕ
fault_line words NoVerb = placed None (codes "no command is given")
fault_line words NotAVerb = placed (slice_get words 0) (codes "no such command")
fault_line words (InOptions verb place why) = placed (slice_get words place) (why_told verb why)

-- how the verb is used that was meant, or where none was, how each is
abbrev pub uses_told : Fault → List ℕ
uses_told NoVerb = table
uses_told NotAVerb = table
uses_told (InOptions verb place why) = use_line verb

abbrev pub fault_told : (words : List (List ℕ)) → Fault → List ℕ
fault_told words fault = fault_line words fault ++ uses_told fault

-- the text tells the fault of the words
pub record IsTold (words : List (List ℕ)) (text : List ℕ) : Type 0 where
  pub fault : Fault
  pub first : IsFaultAt words (place_of fault)
  pub why : Tells words fault
  pub is : text ≡ fault_told words fault
