-- Parts of a text.
use Rattle.std.specs.Prelude.{ℕ, ◌==◌, List, [], ◌∷◌, Option, Some, None, take, drop, length, if◌then◌else◌}
use Rattle.std.specs.Option.{option_map}
use Rattle.std.specs.Str.{bytes_eq}

-- what stands behind these bytes, where the text begins with them
abbrev pub behind : (text head : List ℕ) → Option (List ℕ)
behind text head = if bytes_eq (take (length head) text) head then Some (drop (length head) text) else None

-- what stands before the first such byte, and behind it
unfoldable pub cut_at : ℕ → List ℕ → Option (List ℕ × List ℕ)
cut_at byte [] = None
cut_at byte (x ∷ rest) = if x == byte then Some ([], rest) else option_map (λ p. (x ∷ p.0, p.1)) (cut_at byte rest)

-- a byte put before the first of some pieces
abbrev pub onto_first : ℕ → List (List ℕ) → List (List ℕ)
onto_first x [] = (x ∷ []) ∷ []
onto_first x (piece ∷ pieces) = (x ∷ piece) ∷ pieces

-- what stands between such bytes
unfoldable pub pieces_at : ℕ → List ℕ → List (List ℕ)
pieces_at byte [] = [] ∷ []
pieces_at byte (x ∷ rest) = if x == byte then [] ∷ pieces_at byte rest else onto_first x (pieces_at byte rest)
