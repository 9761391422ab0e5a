-- Lists whose items are read and spelled in turn, each in the state that the ones before it
-- leave, as an edge is spelled by its rise from the edge before it.
use Rattle.std.specs.Prelude.{ℕ, zero, suc, List, [], ◌∷◌, ◌++◌, Result, Ok}
use Rattle.log_codec.specs.Faults.{◌>>=◌}

-- n items are read
unfoldable pub read_in_turn : {S X : Type 0} → (S → List ℕ → Result (X × List ℕ) ℕ) → (S → X → S) → ℕ → S → List ℕ →
    Result (List X × List ℕ) ℕ
read_in_turn item next zero s bytes = Ok ([], bytes)
read_in_turn item next (suc n) s bytes = do
  first ← item s bytes
  others ← read_in_turn item next n (next s first.0) first.1
  Ok (first.0 ∷ others.0, others.1)

-- the spellings of the items
unfoldable pub spelled_in_turn : {S X : Type 0} → (S → X → List ℕ) → (S → X → S) → S → List X → List ℕ
spelled_in_turn text next s [] = []
spelled_in_turn text next s (x ∷ xs) = text s x ++ spelled_in_turn text next (next s x) xs

-- what is spelled alike in each state
abbrev pub alike : {S X : Type 0} → (X → List ℕ) → S → X → List ℕ
alike text s x = text x
