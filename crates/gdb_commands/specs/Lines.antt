-- What is told ends in a line feed.
use Rattle.std.specs.Prelude.{ℕ, List, [], ◌∷◌, ◌++◌, codes, decimal}
use Rattle.std.specs.List.{flat_map}

-- a line: its text and one line feed
abbrev pub line : List ℕ → List ℕ
line text = text ++ 10 ∷ []

-- counts, each behind a space
abbrev pub count_text : ℕ → List ℕ
count_text n = codes " " ++ decimal n

abbrev pub counts_text : List ℕ → List ℕ
counts_text counts = flat_map count_text counts
