-- The pieces of a text: lists of bytes.
use Rattle.std.specs.Prelude.{ℕ, zero, suc, ◌+◌, ◌/◌, ◌%◌, nat_lt, if◌then◌else◌, List, [], ◌∷◌, ◌++◌}

-- a line: its text and one line feed
abbrev pub line : List ℕ → List ℕ
line text = text ++ 10 ∷ []

-- the byte of a hexadecimal digit: `0` to `9`, then `a` to `f`
abbrev pub hex_digit : ℕ → ℕ
hex_digit digit = if nat_lt digit 10 then 48 + digit else 87 + digit

-- the last `count` hexadecimal digits of a number, the highest first
unfoldable pub hex_digits : (count number : ℕ) → List ℕ
hex_digits zero number = []
hex_digits (suc count) number = hex_digits count (number / 16) ++ hex_digit (number % 16) ∷ []

-- a word: eight digits
abbrev pub hex_word : ℕ → List ℕ
hex_word word = hex_digits 8 word
