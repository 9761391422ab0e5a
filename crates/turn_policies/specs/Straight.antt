-- Rule: the straight policy: straight_policy
-- The straight policy: an actor goes on as long as it may.
use Rattle.std.specs.Prelude.{Option, Some, None, if◌then◌else◌}
use Rattle.turn_lists.specs.declared.actor.Actor.{Actor}
use Rattle.turn_policies.specs.declared.actor_set.ActorSet.{ActorSet}
use Rattle.turn_policies.specs.Listed.{first_of, is_listed}
use Rattle.turn_policies.specs.Policies.{PolicyOf}

-- the actor picked last, while it may act; else the first that may
abbrev pub going_on : Option Actor → ActorSet → Actor
going_on None set = first_of set
going_on (Some last) set = if is_listed set last then last else first_of set

-- its state is the actor picked last, where there is one
abbrev pub straight_policy : PolicyOf (Option Actor)
straight_policy = record {
  pick = going_on;
  after_pick = λ last set. Some (going_on last set);
  told = λ last actor goes_round. last;
}
