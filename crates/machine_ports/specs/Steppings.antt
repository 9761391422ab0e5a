-- Rule: which move a step takes, on either machine: Takes
-- What a step takes, whatever a machine's moves are.
use Rattle.std.specs.Prelude.{◌≡◌, ◌<◌, ℕ, ◌%◌, Bool, List, Option, Some, IsTrue, length, slice_index_or}

-- of these moves, of which there are some, the one that a choice numbers, counted around
abbrev pub IsNumbered : {M : Type 0} → List M → (choice : ℕ) → M → Type 0
IsNumbered {M} moves choice m = (d : M) → m ≡ slice_index_or moves (choice % length moves) d

-- The move is the one that a step takes by this choice: of the moves that can be made, of which there is always one,
-- that which the choice numbers, counted around. It is what the plain machine chooses. Its message has a row in its
-- receiver's table, and no link that it pushes to is full.
pub record Takes {M : Type 0} (moves : List M) (chosen : Option M) (has_row : M → Bool) (HasRoom : M → Type 0)
    (choice : ℕ) (m : M) : Type 0 where
  pub some : 0 < length moves
  pub numbered : IsNumbered moves choice m
  pub plainly : chosen ≡ Some m
  pub row : IsTrue (has_row m)
  pub room : HasRoom m
