-- Lists whose items are judged in turn, each in the state that the ones before it leave, as an edge is judged by the
-- edge before it.
use Rattle.std.specs.Prelude.{ℕ, ◌+◌, List, [], ◌∷◌, Bool, true, ◌&&◌, ⊤}

-- each item stands in its state
abbrev pub StandInTurn : {S X : Type 0} → (S → X → Type 0) → (S → X → S) → S → List X → Type 0
StandInTurn stands next s [] = ⊤
StandInTurn stands next s (x ∷ xs) = stands s x × StandInTurn stands next (next s x) xs

-- the same as a test
abbrev pub stand_in_turn : {S X : Type 0} → (S → X → Bool) → (S → X → S) → S → List X → Bool
stand_in_turn stands next s [] = true
stand_in_turn stands next s (x ∷ xs) = stands s x && stand_in_turn stands next (next s x) xs

-- a state that stays
abbrev pub stay : {S X : Type 0} → S → X → S
stay s x = s

-- a state that is the item before
abbrev pub follow : {X : Type 0} → X → X → X
follow last x = x

-- a state that counts the items
abbrev pub count_up : {X : Type 0} → ℕ → X → ℕ
count_up k x = k + 1
