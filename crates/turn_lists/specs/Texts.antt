-- Rule: the text of turns: spelled_turns
-- How turns are written.
use Rattle.std.specs.Prelude.{◌≡◌, ℕ, Bool, ◌&&◌, ◌==◌, not, List, [], ◌∷◌, ◌++◌, codes, decimal, flat_map, length}
use Rattle.std.specs.Prelude.{nat_le}
use Rattle.std.specs.Prelude.{nat_lt, slice_index, true}
use Rattle.std.specs.Char.{is_ascii_digit}
use Rattle.std.specs.List.{list_all}
use Rattle.turn_lists.specs.Actors.{is_actor}
use Rattle.turn_lists.specs.declared.actor.Actor.{Actor}
use Rattle.turn_lists.specs.declared.actor.Actor.TheVariants.{Buffer, Core}
use Rattle.turn_lists.specs.declared.actor.TheConstants.{COUNT_MAX}
use Rattle.turn_lists.specs.declared.actor.Turn.{Turn}

-- several bytes, of which the first is 0
abbrev pub is_padded : List ℕ → Bool
is_padded text = nat_lt 1 (length text) && slice_index text 0 == 48

-- decimal digits without a sign, and without a leading zero but for 0 itself
abbrev pub is_numeral : List ℕ → Bool
is_numeral text = not (length text == 0) && not (is_padded text) && list_all is_ascii_digit text

-- a core by its number, a store buffer by `w` and its core's number
abbrev pub spelled_actor : Actor → List ℕ
spelled_actor (Core c) = decimal c
spelled_actor (Buffer c) = 119 ∷ decimal c

-- the actor, `*`, and how many accesses it makes
abbrev pub spelled_turn : Turn → List ℕ
spelled_turn t = spelled_actor t.actor ++ 42 ∷ decimal t.count

-- further turns, each after a comma
abbrev pub spelled_more : List Turn → List ℕ
spelled_more ts = flat_map (λ t. 44 ∷ spelled_turn t) ts

-- `-` where there is no turn, else the turns with commas between them
unfoldable pub spelled_turns : List Turn → List ℕ
spelled_turns [] = codes "-"
spelled_turns (t ∷ ts) = spelled_turn t ++ spelled_more ts

-- a turn that can be written and read: of an actor that there may be, with a count from 1 to COUNT_MAX
abbrev pub is_turn : Turn → Bool
is_turn t = is_actor t.actor && nat_le 1 t.count && nat_le t.count COUNT_MAX

abbrev pub are_turns : List Turn → Bool
are_turns ts = list_all is_turn ts

-- lists of turns that are written alike are one list
abbrev pub SpelledOnce : Type 0
SpelledOnce = (ts us : List Turn) → are_turns ts ≡ true → are_turns us ≡ true → spelled_turns ts ≡ spelled_turns us →
    ts ≡ us
