-- Rule: the lists of few turns: few
-- The lists of few turns by number: those of no turn first, then those of one, and so on up to six.
use Rattle.std.specs.Prelude.{ℕ, zero, suc, Bool, false, List, [], ◌∷◌, flat_map, map, slice_index_or, Option, Some}
use Rattle.std.specs.Prelude.{None, if◌then◌else◌}
use Rattle.std.specs.List.{range_with_len}
use Rattle.turn_lists.specs.Actors.{is_same}
use Rattle.turn_lists.specs.declared.actor.Actor.{Actor}
use Rattle.turn_lists.specs.declared.actor.Turn.{Turn}
use Rattle.turn_lists.specs.declared.few.TheConstants.{TURNS_MAX}

-- the actor had the turn before
abbrev pub had_last : Option Actor → Actor → Bool
had_last None actor = false
had_last (Some last) actor = is_same last actor

-- a turn of this actor with each count from 1 to a greatest one, and each list after it
abbrev pub begun_by : Turn → List (List Turn) → List (List Turn)
begun_by greatest rests =
    flat_map (λ count. map (λ rest. record greatest { count = count } ∷ rest) rests)
    (range_with_len 1 greatest.count)

-- The lists of so many turns after a turn of the last actor, where there was one. The greatest turns say which actors
-- there are, and how many accesses each may make in a turn. No two neighbours are of one actor. The lists stand in
-- order of the first turn's actor, then of its count, then of the rest.
unfoldable pub lists_of : (greatest : List Turn) → ℕ → (last : Option Actor) → List (List Turn)
lists_of greatest zero last = [] ∷ []
lists_of greatest (suc turns) last =
    flat_map (λ g. if had_last last g.actor then [] else begun_by g (lists_of greatest turns (Some g.actor))) greatest

-- all lists of up to six turns, the shorter ones first
unfoldable pub few_lists : (greatest : List Turn) → List (List Turn)
few_lists greatest = flat_map (λ turns. lists_of greatest turns None) (range_with_len 0 (suc TURNS_MAX))

-- the list numbered n, from 0; past the last one the list of no turn
abbrev pub few : (greatest : List Turn) → ℕ → List Turn
few greatest n = slice_index_or (few_lists greatest) n []
