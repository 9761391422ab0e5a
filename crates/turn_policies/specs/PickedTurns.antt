-- Rule: the turns in which actors were picked: turns_of_picks
-- The turns in which actors were picked one after the other.
use Rattle.std.specs.Prelude.{◌+◌, nat_lt, Bool, ◌&&◌, List, [], ◌∷◌, ◌++◌, replicate, if◌then◌else◌}
use Rattle.turn_lists.specs.Actors.{is_same}
use Rattle.turn_lists.specs.declared.actor.Actor.{Actor}
use Rattle.turn_lists.specs.declared.actor.TheConstants.{COUNT_MAX}
use Rattle.turn_lists.specs.declared.actor.Turn.{Turn}

-- whom the turns have picked, in order: each turn's actor as often as it says
abbrev pub picks_of : List Turn → List Actor
picks_of [] = []
picks_of (t ∷ ts) = replicate t.count t.actor ++ picks_of ts

-- a turn of one pick
abbrev pub one_pick : Actor → Turn
one_pick a = record { actor = a; count = 1 }

-- the turn goes on with this pick
abbrev pub takes_in : Turn → Actor → Bool
takes_in t a = is_same t.actor a && nat_lt t.count COUNT_MAX

-- this turn, going on as long as it can, and then the turns of the other picks
abbrev pub turns_behind : Turn → List Actor → List Turn
turns_behind t [] = t ∷ []
turns_behind t (a ∷ bs) =
    if takes_in t a then turns_behind (record t { count = t.count + 1 }) bs else t ∷ turns_behind (one_pick a) bs

-- the turns in which these actors were picked: each is as long as it can be
abbrev pub turns_of_picks : List Actor → List Turn
turns_of_picks [] = []
turns_of_picks (a ∷ bs) = turns_behind (one_pick a) bs
