-- Which step is decided on, case by case.
use Rattle.std.proofs.Common.{◌≡◌, ◌∙◌, refl, sym, ap, ℕ, suc, ◌+◌, ◌-◌, ◌<◌, true, false, Some, None, arith}
use Rattle.std.specs.Prelude.{Bool, Option, if◌then◌else◌, is_some}
use Rattle.std.specs.List.{range_with_len}
use Rattle.rtr_types.specs.declared.core_set.CoreSet.{CoreSet}
use Rattle.turn_lists.specs.declared.actor.Actor.{Actor}
use Rattle.turn_policies.specs.Listed.{is_nobody}
use Rattle.turn_policies.specs.Policies.{PolicyOf}
use Rattle.turn_policies.specs.declared.actor_set.ActorSet.{ActorSet}
use Rattle.hunt_runs.specs.Directing.{Directed, acted_or_settled, acting, core_at_work, decided, list_at}
use Rattle.hunt_runs.specs.Directing.{delivered_or_acted}
use Rattle.hunt_runs.specs.Directing.{picked, picked_from, settled_or_picked, step_of, to_settle, told_of, without}
use Rattle.hunt_runs.specs.Jumping.{Jumped}
use Rattle.hunt_runs.specs.Seen.{Seen, first_settling, first_some, last_message, settling}
use Rattle.hunt_runs.specs.declared.decision.Decision.{Decision}

-- ---- the list

abbrev left_of : CoreSet → ActorSet → ActorSet
left_of round enabled = record enabled { cores = without enabled.cores round }

pub list_all : (round : CoreSet) (enabled : ActorSet) → is_nobody (left_of round enabled) ≡ true →
    enabled ≡ list_at round enabled
list_all round enabled none = sym (ap (λ (b : Bool). if b then enabled else left_of round enabled) none)

pub list_some : (round : CoreSet) (enabled : ActorSet) → is_nobody (left_of round enabled) ≡ false →
    left_of round enabled ≡ list_at round enabled
list_some round enabled some = sym (ap (λ (b : Bool). if b then enabled else left_of round enabled) some)

module _ {P : Type 0} (policy : PolicyOf P) (d : Directed P) where
  abbrev told : P
  told = told_of policy d.policy d.jumps.round d.turn

  abbrev none_picked : Decision × Directed P
  none_picked = (record { number = 0; core = 0 }, d)

  abbrev one_picked : (enabled list : ActorSet) → Decision × Directed P
  one_picked enabled list = (
    step_of enabled (policy.pick told list),
    record d { policy = policy.after_pick told list; turn = Some (policy.pick told list); made = false },
  )

  -- nobody is in the list
  pub picks_none : (enabled list : ActorSet) → list ≡ list_at d.jumps.round enabled → is_nobody list ≡ true →
      none_picked ≡ picked policy d enabled
  picks_none enabled list same none =
      sym (ap (λ (b : Bool). if b then none_picked else one_picked enabled list) none)
      ∙ ap (picked_from policy d told enabled) same

  -- somebody is
  pub picks_one : (enabled list : ActorSet) (before state : P) (jumps : Jumped) (actor : Actor) (next : Decision) →
      list ≡ list_at d.jumps.round enabled → is_nobody list ≡ false → before ≡ told → jumps ≡ d.jumps →
      actor ≡ policy.pick before list → state ≡ policy.after_pick before list → next ≡ step_of enabled actor →
      (next, record { policy = state; turn = Some actor; made = false; jumps = jumps }) ≡ picked policy d enabled
  picks_one enabled list before state jumps actor next same some is_told is_jumps is_actor is_state is_next =
      let actor_is : actor ≡ policy.pick told list = is_actor ∙ ap (λ (p : P). policy.pick p list) is_told in
      let state_is : state ≡ policy.after_pick told list =
      is_state ∙ ap (λ (p : P). policy.after_pick p list) is_told in
      let next_is : next ≡ step_of enabled (policy.pick told list) = is_next ∙ ap (step_of enabled) actor_is in
      (λ i. (next_is i, record { policy = state_is i; turn = Some (actor_is i); made = false; jumps = is_jumps i }))
      ∙ sym (ap (λ (b : Bool). if b then none_picked else one_picked enabled list) some)
      ∙ ap (picked_from policy d told enabled) same

  -- ---- the cases before it

  pub settles : (seen : Seen) (actor : Actor) (found : Option Actor) → found ≡ Some actor →
      found ≡ to_settle d.turn seen →
      (step_of seen.actors actor, d) ≡ settled_or_picked policy d seen (to_settle d.turn seen)
  settles seen actor found some is = ap (settled_or_picked policy d seen) (sym some ∙ is)

  pub none_to_settle : (seen : Seen) (enabled : ActorSet) (found : Option Actor) (made : Decision × Directed P) →
      found ≡ None → found ≡ to_settle d.turn seen → enabled ≡ seen.actors → made ≡ picked policy d enabled →
      made ≡ settled_or_picked policy d seen (to_settle d.turn seen)
  none_to_settle seen enabled found made none is same picks =
      picks ∙ ap (picked policy d) same ∙ ap (settled_or_picked policy d seen) (sym none ∙ is)

  pub acts : (seen : Seen) (actor : Actor) (found : Option Actor) → found ≡ Some actor → found ≡ acting d →
      (step_of seen.actors actor, d) ≡ acted_or_settled policy d seen (acting d)
  acts seen actor found some is = ap (acted_or_settled policy d seen) (sym some ∙ is)

  pub none_acts : (seen : Seen) (found : Option Actor) (made : Decision × Directed P) → found ≡ None →
      found ≡ acting d → made ≡ settled_or_picked policy d seen (to_settle d.turn seen) →
      made ≡ acted_or_settled policy d seen (acting d)
  none_acts seen found made none is settles = settles ∙ ap (acted_or_settled policy d seen) (sym none ∙ is)

  pub delivers : (seen : Seen) (enabled : ActorSet) (steps number core : ℕ) (found : Option ℕ) →
      found ≡ Some number → found ≡ last_message enabled steps → enabled ≡ seen.actors → steps ≡ seen.steps →
      core ≡ core_at_work d.turn → (record { number = number; core = core }, d) ≡ decided policy d seen
  delivers seen enabled steps number core found some is same many work =
      let found_is : Some number ≡ last_message seen.actors seen.steps =
      sym some ∙ is ∙ (λ i. last_message (same i) (many i)) in
      (λ i. (record { number = number; core = work i }, d)) ∙ ap (delivered_or_acted policy d seen) found_is

  pub none_delivered : (seen : Seen) (enabled : ActorSet) (steps : ℕ) (found : Option ℕ)
      (made : Decision × Directed P) →
      found ≡ None → found ≡ last_message enabled steps → enabled ≡ seen.actors → steps ≡ seen.steps →
      made ≡ acted_or_settled policy d seen (acting d) → made ≡ decided policy d seen
  none_delivered seen enabled steps found made none is same many acts =
      let found_is : None ≡ last_message seen.actors seen.steps =
      sym none ∙ is ∙ (λ i. last_message (same i) (many i)) in
      acts ∙ ap (delivered_or_acted policy d seen) found_is

-- ---- settling

-- the first of the cores from one on that isn't settled
pub settles_next : (seen : Seen) (core cores : ℕ) (found : Option Actor) → core < cores → found ≡ settling seen core →
    first_some found (first_settling seen (range_with_len (core + 1) (cores - (core + 1))))
    ≡ first_settling seen (range_with_len core (cores - core))
settles_next seen core cores found more is =
    let many : suc (cores - (core + 1)) ≡ cores - core = omega (arith, more) in
    ap (λ (o : Option Actor). first_some o (first_settling seen (range_with_len (core + 1) (cores - (core + 1))))) is
    ∙ ap (λ (n : ℕ). first_settling seen (range_with_len core n)) many

pub none_first : (found rest : Option Actor) → is_some found ≡ false → first_some found rest ≡ rest
none_first None rest none = refl
none_first (Some a) rest none = absurd cc

pub one_first : (found rest : Option Actor) → is_some found ≡ true → found ≡ first_some found rest
one_first None rest some = absurd cc
one_first (Some a) rest some = refl
