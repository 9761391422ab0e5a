-- Turns that are over are passed.
use Rattle.std.proofs.Common.{◌≡◌, ◌∙◌, refl, sym, ap, ℕ, zero, suc, ◌<◌, ◌≤◌, ◌+◌, ◌-◌, Bool, true, false, List, []}
use Rattle.std.proofs.Common.{◌∷◌}
use Rattle.std.proofs.Common.{length, get_or, drop, arith, Option, Some, None}
use Rattle.std.specs.Prelude.{◌&&◌, nat_lt, option_map, slice_get}
use Rattle.std.proofs.lemmas.List.{at_drop_all, at_drop_more}
use Rattle.turn_lists.specs.declared.actor.Actor.{Actor}
use Rattle.turn_lists.specs.declared.actor.Turn.{Turn}
use Rattle.turn_policies.specs.declared.actor_set.ActorSet.{ActorSet}
use Rattle.turn_policies.specs.Listed.{is_listed}
use Rattle.turn_policies.specs.TurnByTurn.{final_actor, turns_going}

pub going_past : (actors : ActorSet) (turns : List Turn) (i : ℕ) (d : Turn) → i < length turns →
    (nat_lt 0 (get_or turns i d).count && is_listed actors (get_or turns i d).actor) ≡ false →
    turns_going actors (drop i turns) ≡ turns_going actors (drop (i + 1) turns)
going_past actors turns i d within over = at_drop_more (turns_going actors) turns i d within ∙ (rw over refl)

pub going_here : (actors : ActorSet) (turns : List Turn) (i : ℕ) (d : Turn) → i < length turns →
    (nat_lt 0 (get_or turns i d).count && is_listed actors (get_or turns i d).actor) ≡ true →
    turns_going actors (drop i turns) ≡ get_or turns i d ∷ drop (i + 1) turns
going_here actors turns i d within goes = at_drop_more (turns_going actors) turns i d within ∙ (rw goes refl)

pub going_none : (actors : ActorSet) (turns : List Turn) (i : ℕ) → length turns ≤ i →
    turns_going actors (drop i turns) ≡ []
going_none actors turns i past = at_drop_all (turns_going actors) turns i past

pub final_is : (turns : List Turn) →
    final_actor turns ≡ option_map (λ (t : Turn). t.actor) (slice_get turns (length turns - 1))
final_is [] = refl
final_is (t ∷ []) = refl
final_is (t ∷ u ∷ turns) =
    let place : length (t ∷ u ∷ turns) - 1 ≡ suc (length (u ∷ turns) - 1) = omega arith in
    final_is (u ∷ turns)
    ∙ ap (λ (n : ℕ). option_map (λ (v : Turn). v.actor) (slice_get (t ∷ u ∷ turns) n)) (sym place)
