-- What a link is to contracts.
use Rattle.std.specs.Prelude.{ℕ, List, [], ◌∷◌, ◌++◌, take, drop, Bool, true, false}

-- how many items the link has room for, and those that it holds, oldest first
pub record Queue (T : Type 0) : Type 0 where
  pub room : ℕ
  pub items : List T

-- the list has no element
abbrev pub is_nil : {X : Type 0} → List X → Bool
is_nil [] = true
is_nil (x ∷ xs) = false

-- what lies in the `count` places of a ring from place `first` on: behind the last place of the list
-- comes its place 0
unfoldable pub around : {X : Type 0} → List X → ℕ → ℕ → List X
around list first count = take count (drop first list ++ take first list)
