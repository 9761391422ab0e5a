-- How many acts of each actor lie in lines, and how many before the places that an order has reached.
use Rattle.std.specs.Prelude.{ℕ, ◌+◌, List, [], ◌∷◌, length, if◌then◌else◌}
use Rattle.turn_lists.specs.Actors.{is_same}
use Rattle.turn_lists.specs.declared.actor.Actor.{Actor}
use Rattle.small_turns.specs.declared.lines.Line.{Line}

-- how many acts the actor's lines have
abbrev pub held : Actor → List Line → ℕ
held a [] = 0
held a (line ∷ lines) = (if is_same a line.actor then length line.waits else 0) + held a lines

-- how many acts the actor's lines have before these places, one for each line
abbrev pub reached : Actor → List Line → (places : List ℕ) → ℕ
reached a [] places = 0
reached a (line ∷ lines) [] = 0
reached a (line ∷ lines) (place ∷ places) = (if is_same a line.actor then place else 0) + reached a lines places
