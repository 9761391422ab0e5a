use Rattle.std.proofs.Common.{◌≡◌, ◌∙◌, sym, ap}
use Rattle.std.specs.Prelude.{option_map}
use Rattle.turn_lists.specs.declared.actor.Turn.{Turn}
use Rattle.turn_policies.proofs.TurnSteps.{final_is}
use Rattle.turn_policies.proofs.turns.last_actor.Goals as goal

pub returns-in-Some : goal.returns-in-Some
returns-in-Some c =
    ap (option_map (λ (t : Turn). t.actor)) c.in-Some.ensures.value ∙ sym (final_is c.args.turns.now)
