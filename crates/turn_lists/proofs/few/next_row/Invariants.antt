use Rattle.std.proofs.Common.{◌≡◌, Some, take}
use Rattle.std.specs.Prelude.{map}
use Rattle.turn_lists.specs.Counts.{counted_on}
use Rattle.turn_lists.specs.declared.actor.Turn.{Turn}
use Rattle.turn_lists.proofs.few.next_row.Given as goal

abbrev pub invariant-loop-turn : goal.invariant-loop-turn
invariant-loop-turn l =
    l.next ≡ map (λ (g : Turn). counted_on 0 l.greatest l.row (Some g.actor)) (take l.turn-index l.greatest)
