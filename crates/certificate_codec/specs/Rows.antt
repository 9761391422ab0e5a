-- Numbers in one list, read as rows of one width.
use Rattle.std.specs.Prelude.{ℕ, zero, suc, List, [], ◌∷◌, drop, take}

-- the first rows
unfoldable pub rows : (width number : ℕ) → List ℕ → List (List ℕ)
rows width zero counts = []
rows width (suc number) counts = take width counts ∷ rows width number (drop width counts)
