-- The words of a text: what stands between spaces.
use Rattle.std.specs.Prelude.{ℕ, ◌==◌, Bool, not, List, length, filter}
use Rattle.gdb_packets.specs.Texts.{pieces_at}

abbrev pub is_word : List ℕ → Bool
is_word piece = not (length piece == 0)

-- the pieces that are words
abbrev pub words_in : List (List ℕ) → List (List ℕ)
words_in pieces = filter is_word pieces

abbrev pub words_of : List ℕ → List (List ℕ)
words_of text = words_in (pieces_at 32 text)
