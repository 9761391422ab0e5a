-- The history of a conversation: each byte that is heard and each that is said, in the order in which they pass.
use Rattle.std.specs.Prelude.{◌≡◌, ℕ, List, [], ◌∷◌, ◌++◌, map, Option}
use Rattle.std.specs.Io.KnownBytes.{Appends, Consumes}

pub data Word : Type 0 where
  Heard : (byte : ℕ) → Word
  Said : (byte : ℕ) → Word

-- bytes that are said one after the other
abbrev pub saying : List ℕ → List Word
saying bytes = map Said bytes

-- these begin those
abbrev pub IsFront : (part whole : List Word) → Type 0
IsFront part whole = (rest : List Word) × (whole ≡ part ++ rest)

-- what was heard of a history
abbrev pub heard_in : List Word → List ℕ
heard_in [] = []
heard_in (Heard byte ∷ words) = byte ∷ heard_in words
heard_in (Said byte ∷ words) = heard_in words

-- what was said in it
abbrev pub said_in : List Word → List ℕ
said_in [] = []
said_in (Heard byte ∷ words) = said_in words
said_in (Said byte ∷ words) = byte ∷ said_in words

-- over two streams: what was heard was taken from the one, and what was said was given to the other
pub record StreamsPassed (left left' got got' : Option (List ℕ)) (words : List Word) : Type 0 where
  pub taken : Consumes left left' (heard_in words)
  pub given : Appends got got' (said_in words)
