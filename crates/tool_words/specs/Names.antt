-- What words name, by a table of words and meanings.
use Rattle.std.specs.Prelude.{ℕ, List, [], ◌∷◌, Option, Some, None, if◌then◌else◌}
use Rattle.std.specs.Str.{bytes_eq}

-- what the word is in the table, exactly
abbrev pub named_by : {A : Type 0} → List (List ℕ × A) → List ℕ → Option A
named_by [] word = None
named_by (row ∷ rows) word = if bytes_eq word row.0 then Some row.1 else named_by rows word
