-- Rule: the actors that may act, in order: listed
-- The actors that may act next, in order.
use Rattle.std.specs.Prelude.{Bool, ◌==◌, List, ◌++◌, length, map, slice_index_or}
use Rattle.rtr_types.specs.CoreSets.{has}
use Rattle.move_marks.specs.Members.{members}
use Rattle.turn_lists.specs.declared.actor.Actor.{Actor}
use Rattle.turn_lists.specs.declared.actor.Actor.TheVariants.{Buffer, Core}
use Rattle.turn_policies.specs.declared.actor_set.ActorSet.{ActorSet}

-- the actors of the set in order: cores by number, then buffers by number
abbrev pub listed : ActorSet → List Actor
listed set = map Core (members set.cores) ++ map Buffer (members set.buffers)

-- whether the actor is in the set
abbrev pub is_listed : ActorSet → Actor → Bool
is_listed set (Core c) = has set.cores c
is_listed set (Buffer c) = has set.buffers c

-- nobody is in the set
abbrev pub is_nobody : ActorSet → Bool
is_nobody set = length (listed set) == 0

-- the first actor of a set that has one
abbrev pub first_of : ActorSet → Actor
first_of set = slice_index_or (listed set) 0 (Core 0)
