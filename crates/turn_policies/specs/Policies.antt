-- Rule: a policy: PolicyOf
-- What a policy is: who makes the next access, by what it has seen so far.
use Rattle.std.specs.Prelude.{◌≡◌, Bool, true, false}
use Rattle.turn_lists.specs.declared.actor.Actor.{Actor}
use Rattle.turn_policies.specs.declared.actor_set.ActorSet.{ActorSet}
use Rattle.turn_policies.specs.Listed.{is_listed, is_nobody}

-- whom a policy in this state picks from those who may act, its state after the pick, and its state once the actor that
-- it picked has acted and is known to go round or not
pub record PolicyOf (S : Type 0) : Type 0 where
  pub pick : S → ActorSet → Actor
  pub after_pick : S → ActorSet → S
  pub told : S → Actor → (goes_round : Bool) → S

-- whom it picks may act, wherever somebody may
abbrev pub PicksWhoMay : {S : Type 0} → PolicyOf S → Type 0
PicksWhoMay {S} policy =
    (s : S) (set : ActorSet) → is_nobody set ≡ false → is_listed set (policy.pick s set) ≡ true
