-- How many of the bytes were moved, where a call doesn't answer with them.
use Rattle.std.specs.Prelude.{◌≡◌, ℕ, ◌<◌, ◌≤◌, List, Option, length, take}
use Rattle.std.specs.Io.KnownBytes.{Appends, Consumes}

-- just n bytes were taken
abbrev pub TakesJust : ℕ → Option (List ℕ) → Option (List ℕ) → Type 0
TakesJust n old new = (taken : List ℕ) × (length taken ≡ n) × Consumes old new taken

-- at most n bytes were taken
abbrev pub TakesAtMost : ℕ → Option (List ℕ) → Option (List ℕ) → Type 0
TakesAtMost n old new = (taken : List ℕ) × (length taken ≤ n) × Consumes old new taken

-- a part of the bytes, from their front, was given, and not all
abbrev pub GivesPart : List ℕ → Option (List ℕ) → Option (List ℕ) → Type 0
GivesPart bytes old new = (n : ℕ) × (n < length bytes) × Appends old new (take n bytes)
