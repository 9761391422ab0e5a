use Rattle.std.proofs.Common.{◌≡◌, drop}
use Rattle.std.specs.Prelude.{find, not}
use Rattle.turn_lists.specs.Actors.{is_same}
use Rattle.turn_policies.specs.Listed.{listed}
use Rattle.turn_policies.proofs.turns.other_than.Given as goal

abbrev pub invariant-loop-number : goal.invariant-loop-number
invariant-loop-number l =
    find (λ a. not (is_same a l.actor)) (drop l.number (listed l.actors))
    ≡ find (λ a. not (is_same a l.actor)) (listed l.actors)
