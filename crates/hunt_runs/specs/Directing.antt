-- Rule: which step a policy's run takes next: decided, noticed
-- Which step a run by a policy takes next. Each message is delivered at once. The actor that was picked makes one
-- access as a whole, its core is settled, and then the policy picks again.
use Rattle.std.specs.Prelude.{◌≡◌, ◌<◌, ◌≤◌, ◌==◌, ℕ, nat_lt, Bool, false, not, ◌||◌, length, Option, Some, None}
use Rattle.std.specs.Prelude.{if◌then◌else◌, bit_and}
use Rattle.std.specs.Int.{bit_not}
use Rattle.std.specs.List.{range_with_len}
use Rattle.rtr_types.specs.CoreSets.{has, set_width}
use Rattle.rtr_types.specs.declared.TheConstants.{CORES_MAX}
use Rattle.rtr_types.specs.declared.core_set.CoreSet.{CoreSet}
use Rattle.turn_lists.specs.Actors.{core_of}
use Rattle.turn_lists.specs.declared.actor.Actor.{Actor}
use Rattle.turn_lists.specs.declared.actor.Actor.TheVariants.{Buffer, Core as CoreActor}
use Rattle.turn_policies.specs.Listed.{is_nobody}
use Rattle.turn_policies.specs.Policies.{PolicyOf}
use Rattle.turn_policies.specs.declared.actor_set.ActorSet.{ActorSet}
use Rattle.hunt_runs.specs.Jumping.{Jumped, jumps_after, no_jumps, spot_of}
use Rattle.hunt_runs.specs.Seen.{Seen, core_in, first_settling, last_message, settling, step_number}
use Rattle.hunt_runs.specs.declared.decision.Decision.{Decision}

-- what a run by a policy keeps in mind between two steps
pub record Directed (P : Type 0) : Type 0 where
  -- the policy's state
  pub policy : P
  -- the actor that was picked last, and whether it has made its access since, or executed an instruction
  pub turn : Option Actor
  pub made : Bool
  -- which cores went back, and which go round
  pub jumps : Jumped

-- before the first step, with so many cores: nobody was picked
abbrev pub begun : {P : Type 0} → P → (cores : ℕ) → Directed P
begun policy cores = record { policy = policy; turn = None; made = false; jumps = no_jumps cores }

-- the cores of the first set that aren't in the second
unfoldable pub without : CoreSet → CoreSet → CoreSet
without set gone = record { bits = bit_and set.bits (bit_not set_width gone.bits) }

-- The list at a moment when all is delivered and settled: the actors whose steps are enabled, without the cores that go
-- round; where that leaves none, all of them.
abbrev pub list_at : (round : CoreSet) → ActorSet → ActorSet
list_at round enabled =
    let some = record enabled { cores = without enabled.cores round } in
    if is_nobody some then enabled else some

-- the core of the actor that was picked last
abbrev pub core_at_work : Option Actor → ℕ
core_at_work None = 0
core_at_work (Some actor) = core_of actor

-- the actor's step, and its core
abbrev pub step_of : ActorSet → Actor → Decision
step_of enabled actor = record { number = step_number enabled actor; core = core_of actor }

-- whether the actor is a core that goes round
abbrev pub is_round : (round : CoreSet) → Actor → Bool
is_round round (CoreActor c) = has round c
is_round round (Buffer c) = false

-- the actor by whose step a core is settled further: after an act its actor's core, and at first each by number
abbrev pub to_settle : Option Actor → Seen → Option Actor
to_settle None seen = first_settling seen (range_with_len 0 (length seen.cores))
to_settle (Some actor) seen = settling seen (core_of actor)

module _ {P : Type 0} where
  -- the policy hears what became of the actor that was picked last, where one was
  abbrev pub told_of : PolicyOf P → P → (round : CoreSet) → Option Actor → P
  told_of policy state round None = state
  told_of policy state round (Some actor) = policy.told state actor (is_round round actor)

  -- it picks from the list, where somebody is in it; else the first enabled step is taken
  abbrev pub picked_from : PolicyOf P → Directed P → P → (enabled list : ActorSet) → Decision × Directed P
  picked_from policy d told enabled list =
      if is_nobody list then (record { number = 0; core = 0 }, d)
      else (
        step_of enabled (policy.pick told list),
        record d { policy = policy.after_pick told list; turn = Some (policy.pick told list); made = false },
      )

  abbrev pub picked : PolicyOf P → Directed P → (enabled : ActorSet) → Decision × Directed P
  picked policy d enabled =
      picked_from policy d (told_of policy d.policy d.jumps.round d.turn) enabled (list_at d.jumps.round enabled)

  -- the actor whose act isn't done: it made no access and executed no instruction
  abbrev pub acting : Directed P → Option Actor
  acting d = if d.made then None else d.turn

  -- with no act under way: the step that settles a core further, else the policy's pick
  abbrev pub settled_or_picked : PolicyOf P → Directed P → Seen → Option Actor → Decision × Directed P
  settled_or_picked policy d seen (Some actor) = (step_of seen.actors actor, d)
  settled_or_picked policy d seen None = picked policy d seen.actors

  -- with no message under way: the acting actor's step again
  abbrev pub acted_or_settled : PolicyOf P → Directed P → Seen → Option Actor → Decision × Directed P
  acted_or_settled policy d seen (Some actor) = (step_of seen.actors actor, d)
  acted_or_settled policy d seen None = settled_or_picked policy d seen (to_settle d.turn seen)

  -- the last message's step before all
  abbrev pub delivered_or_acted : PolicyOf P → Directed P → Seen → Option ℕ → Decision × Directed P
  delivered_or_acted policy d seen (Some number) = (record { number = number; core = core_at_work d.turn }, d)
  delivered_or_acted policy d seen None = acted_or_settled policy d seen (acting d)

  -- the step that is taken next, and what is kept in mind
  abbrev pub decided : PolicyOf P → Directed P → Seen → Decision × Directed P
  decided policy d seen = delivered_or_acted policy d seen (last_message seen.actors seen.steps)

-- in the step of core c the actor that was picked executed an instruction, or made a store, where it is a buffer
abbrev pub has_made : Option Actor → (count count' stores stores' : ℕ) → Bool
has_made None count count' stores stores' = false
has_made (Some (CoreActor a)) count count' stores stores' = not (count' == count)
has_made (Some (Buffer a)) count count' stores stores' = nat_lt stores' stores

-- what is kept in mind once the step was taken, of core c, and a word was changed by it or not
abbrev pub noticed : {P : Type 0} → (c : ℕ) → (changed : Bool) → (before after : Seen) → Directed P → Directed P
noticed c changed before after d = record d {
  made = d.made
      || has_made d.turn (core_in before c).count (core_in after c).count (before.stores c) (after.stores c);
  jumps = jumps_after c (spot_of (core_in before c)) (core_in after c) (after.stores c) changed d.jumps;
}

-- what is kept in mind is of so many cores
pub record IsOf {P : Type 0} (d : Directed P) (cores : ℕ) : Type 0 where
  pub work : core_at_work d.turn < cores
  pub long : length d.jumps.last ≡ cores
  pub few : cores ≤ CORES_MAX

-- where some step is enabled this one is; its number is a byte, and its core one of so many
pub record IsStep (next : Decision) (steps cores : ℕ) : Type 0 where
  pub within : 0 < steps → next.number < steps
  pub byte : next.number < 256
  pub core : next.core < cores
