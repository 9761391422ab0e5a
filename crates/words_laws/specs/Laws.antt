-- What words mean, by their grammar.
use Rattle.std.specs.Prelude.{◌≡◌, ◌≢◌, ℕ, ◌↔◌, List, ◌∷◌, ◌++◌, Some, None}
use Rattle.tool_words.specs.declared.command.Command.{Command}
use Rattle.tool_words.specs.Reading.{Set, meaning}
use Rattle.words_laws.specs.Grammar.{AreSpelled, Says, Spells, apart, joined, value_set}

-- words mean a command just where they say it by the grammar; every other list means nothing
abbrev pub WordsMean : Type 0
WordsMean = (words : List (List ℕ)) (command : Command) → (meaning words ≡ Some command) ↔ Says words command

-- a name and its value mean the same joined and apart, after any settings and before any words
abbrev pub JoinedIsApart : Type 0
JoinedIsApart = (first name text : List ℕ) (before after : List (List ℕ)) (sets : List Set) (set : Set) →
    AreSpelled first before sets → value_set first name text ≡ Some set →
    meaning (first ∷ (before ++ (joined name text ++ after))) ≡ meaning (first ∷ (before ++ (apart name text ++ after)))

-- two settings next to each other, of different options, may change places
abbrev pub SettingsCommute : Type 0
SettingsCommute = (first : List ℕ) (before a b after : List (List ℕ)) (sets : List Set) (x y : Set) →
    AreSpelled first before sets → Spells first a x → Spells first b y → x.name ≢ y.name →
    meaning (first ∷ (before ++ (a ++ (b ++ after)))) ≡ meaning (first ∷ (before ++ (b ++ (a ++ after))))

-- an option that is set twice, with the same value or another: the words mean nothing, whatever follows
abbrev pub TwiceIsNothing : Type 0
TwiceIsNothing = (first : List ℕ) (before a between b after : List (List ℕ)) (sets more : List Set) (x y : Set) →
    AreSpelled first before sets → Spells first a x → AreSpelled first between more → Spells first b y →
    x.name ≡ y.name → meaning (first ∷ (before ++ (a ++ (between ++ (b ++ after))))) ≡ None
