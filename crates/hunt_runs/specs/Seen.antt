-- Rule: what directs a run sees of the machine: Seen
-- What is seen of a machine between two steps, whichever machine it is, and which of its steps are whose.
use Rattle.std.specs.Prelude.{ℕ, ◌+◌, ◌-◌, nat_lt, Bool, ◌&&◌, List, [], ◌∷◌, length, Option, Some, None}
use Rattle.std.specs.Prelude.{if◌then◌else◌, slice_index_or}
use Rattle.std.specs.List.{filter, range_with_len}
use Rattle.rtr_types.specs.CoreSets.{has}
use Rattle.rtr_types.specs.declared.TheConstants.{CORES_MAX}
use Rattle.rtr_types.specs.declared.core_set.CoreSet.{CoreSet}
use Rattle.rv_core.specs.States.{starting}
use Rattle.rv_core.specs.declared.core_state.Core.{Core}
use Rattle.move_marks.specs.Members.{members}
use Rattle.turn_lists.specs.declared.actor.Actor.{Actor}
use Rattle.turn_lists.specs.declared.actor.Actor.TheVariants.{Buffer, Core as CoreActor}
use Rattle.turn_policies.specs.Listed.{is_listed, listed}
use Rattle.turn_policies.specs.declared.actor_set.ActorSet.{ActorSet}

-- what is seen of a machine between two steps
pub record Seen : Type 0 where
  -- its cores, without their pending accesses
  pub cores : List Core
  -- the actors whose steps are enabled
  pub actors : ActorSet
  -- how many steps are enabled: first those of the actors, in order, and then those of messages
  pub steps : ℕ
  -- whether the oldest of a core's pending accesses is a load
  pub load_first : ℕ → Bool
  -- whether no other core sees what a core's next instruction does: it makes no access, or is a store that is buffered
  pub unseen : ℕ → Bool
  -- how many stores a core's buffer holds
  pub stores : ℕ → ℕ
  -- whether no step is left
  pub ended : Bool

-- a core, by its number
abbrev pub core_in : Seen → ℕ → Core
core_in seen c = slice_index_or seen.cores c (starting 0 0)

-- ---- the numbers of steps

-- how many of a set's cores are below this one
abbrev pub place_in : CoreSet → ℕ → ℕ
place_in set c = length (filter (λ d. has set d && nat_lt d c) (range_with_len 0 CORES_MAX))

-- the place of an actor among those of a set
abbrev pub place_of : ActorSet → Actor → ℕ
place_of set (CoreActor c) = place_in set.cores c
place_of set (Buffer c) = length (members set.cores) + place_in set.buffers c

-- the number, among those enabled, of an actor's step; 0 where it isn't enabled
abbrev pub step_number : ActorSet → Actor → ℕ
step_number set actor = if is_listed set actor then place_of set actor else 0

-- of so many enabled steps, with those of these actors first: the number of the last one, where it is a message's
abbrev pub last_message : ActorSet → (steps : ℕ) → Option ℕ
last_message set steps = if nat_lt (length (listed set)) steps then Some (steps - 1) else None

-- ---- settling

-- the actor by whose step core c is settled further: its buffer's, where the oldest pending access is a load, else its
-- own, where that is enabled and no other core sees what it does
abbrev pub settling : Seen → (c : ℕ) → Option Actor
settling seen c =
    if seen.load_first c then Some (Buffer c)
    else if seen.unseen c && is_listed seen.actors (CoreActor c) then Some (CoreActor c)
    else None

-- the first of the two, where there is one, else the second
abbrev pub first_some : {X : Type 0} → Option X → Option X → Option X
first_some (Some x) other = Some x
first_some None other = other

-- the actor by whose step the first of these cores that isn't settled is settled further
abbrev pub first_settling : Seen → List ℕ → Option Actor
first_settling seen [] = None
first_settling seen (c ∷ cs) = first_some (settling seen c) (first_settling seen cs)
