-- The states that a machine comes to: its moves are made one after the other, and a clerk leaves on the copies that are
-- touched whatever riders it likes.
use Rattle.std.specs.Prelude.{Bool, List, [], ◌∷◌, if◌then◌else◌}

-- a move, and the rider that the clerk leaves if an access is made in it
pub record MoveTaken (M R : Type 0) : Type 0 where
  pub move : M
  pub rider : R

module _ {S M R : Type 0} where
  -- a move that isn't enabled is not made
  abbrev pub taking : (enabled : S → M → Bool) → (step : R → S → M → S) → S → MoveTaken M R → S
  taking enabled step s taken = if enabled s taken.move then step taken.rider s taken.move else s

  -- the state after these moves, the first of them first
  abbrev pub walked : (enabled : S → M → Bool) → (step : R → S → M → S) → S → List (MoveTaken M R) → S
  walked enabled step s [] = s
  walked enabled step s (taken ∷ later) = walked enabled step (taking enabled step s taken) later
