-- What is shown of the time that work takes.
use Rattle.std.specs.Prelude.{ℕ, Bool, true, false, List, [], ◌∷◌, ◌++◌, Option, Some, None, codes, decimal}

-- after so many seconds a terminal shows them in a line that the next one writes over; elsewhere nothing is shown
abbrev pub second_line : (is_terminal : Bool) → (seconds : ℕ) → Option (List ℕ)
second_line false seconds = None
second_line true seconds = Some (codes "rtr: " ++ decimal seconds ++ codes " s" ++ 13 ∷ [])
