-- Rule: what a terminal shows of runs: rate_line
-- What is shown of runs while they are made.
use Rattle.std.specs.Prelude.{ℕ, ◌*◌, ◌/◌, ◌==◌, Bool, true, false, List, [], ◌∷◌, ◌++◌, Option, Some, None, codes, decimal, if◌then◌else◌}

abbrev pub at_least_one : ℕ → ℕ
at_least_one n = if n == 0 then 1 else n

-- after so many runs in so many milliseconds a terminal shows how many they are, and how many a second, in a line that
-- the next one writes over; elsewhere nothing is shown
abbrev pub rate_line : (is_terminal : Bool) → (runs millis : ℕ) → Option (List ℕ)
rate_line false runs millis = None
rate_line true runs millis =
    Some (codes "rtr: " ++ decimal runs ++ codes " runs, " ++ decimal (runs * 1000 / at_least_one millis) ++ codes " a second"
    ++ 13 ∷ [])

-- seventy blanks in its place
abbrev pub blank_line : (is_terminal : Bool) → Option (List ℕ)
blank_line false = None
blank_line true = Some (codes "                                                                      " ++ 13 ∷ [])
