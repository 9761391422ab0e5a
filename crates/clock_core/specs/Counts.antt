-- The counts of a vector clock, core 0 first.
use Rattle.std.specs.Prelude.{ℕ, List, [], ◌∷◌, max, replicate}
use Rattle.rtr_types.specs.declared.TheConstants.{CORES_MAX}

-- nothing is known of any core
abbrev pub no_counts : List ℕ
no_counts = replicate CORES_MAX 0

-- the greater count at each place
abbrev pub merged : List ℕ → List ℕ → List ℕ
merged [] ys = ys
merged (x ∷ xs) [] = x ∷ xs
merged (x ∷ xs) (y ∷ ys) = max x y ∷ merged xs ys
