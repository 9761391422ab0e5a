-- Rule: the policy of a list of turns: turns_policy
-- The policy of a list of turns.
use Rattle.std.specs.Prelude.{ℕ, ◌-◌, nat_lt, Bool, ◌&&◌, not, List, [], ◌∷◌, Option, Some, None, find, if◌then◌else◌}
use Rattle.std.specs.Prelude.{unwrap_or}
use Rattle.turn_lists.specs.Actors.{is_same}
use Rattle.turn_lists.specs.declared.actor.Actor.{Actor}
use Rattle.turn_lists.specs.declared.actor.Turn.{Turn}
use Rattle.turn_policies.specs.declared.actor_set.ActorSet.{ActorSet}
use Rattle.turn_policies.specs.Listed.{first_of, is_listed, listed}
use Rattle.turn_policies.specs.Policies.{PolicyOf}
use Rattle.turn_policies.specs.Straight.{going_on}

-- the turns that are left, with the accesses that each still has; the actor of the last turn of all, where there was a
-- turn; and the actor picked last after the turns, where one was
pub record TurnsLeft : Type 0 where
  pub turns : List Turn
  pub final : Option Actor
  pub last : Option Actor

-- the actor of the last turn
abbrev pub final_actor : List Turn → Option Actor
final_actor [] = None
final_actor (t ∷ []) = Some t.actor
final_actor (t ∷ u ∷ ts) = final_actor (u ∷ ts)

-- these turns are left, and nobody was picked yet
abbrev pub turns_begun : List Turn → TurnsLeft
turns_begun ts = record { turns = ts; final = final_actor ts; last = None }

-- A turn is over where it has no access left, or its actor may not act.
abbrev pub turns_going : ActorSet → List Turn → List Turn
turns_going set [] = []
turns_going set (t ∷ ts) = if nat_lt 0 t.count && is_listed set t.actor then t ∷ ts else turns_going set ts

-- the first actor that isn't the last turn's; the first of all where there is no other, or was no turn
abbrev pub other_than : Option Actor → ActorSet → Actor
other_than None set = first_of set
other_than (Some final) set = unwrap_or (find (λ a. not (is_same a final)) (listed set)) (first_of set)

-- after all turns: at first another actor than the last turn's, and then straight on
abbrev pub after_turns : Option Actor → Option Actor → ActorSet → Actor
after_turns final None set = other_than final set
after_turns final (Some last) set = going_on (Some last) set

-- the actor of the first turn that isn't over
abbrev pub turn_pick : TurnsLeft → ActorSet → List Turn → Actor
turn_pick s set [] = after_turns s.final s.last set
turn_pick s set (t ∷ ts) = t.actor

-- it has one access less
abbrev pub turn_picked : TurnsLeft → ActorSet → List Turn → TurnsLeft
turn_picked s set [] = record s { turns = []; last = Some (after_turns s.final s.last set) }
turn_picked s set (t ∷ ts) = record s { turns = record t { count = t.count - 1 } ∷ ts }

abbrev pub turns_policy : PolicyOf TurnsLeft
turns_policy = record {
  pick = λ s set. turn_pick s set (turns_going set s.turns);
  after_pick = λ s set. turn_picked s set (turns_going set s.turns);
  told = λ s actor goes_round. s;
}
