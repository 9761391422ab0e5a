use Rattle.std.proofs.Common.{◌≡◌, Some, take}
use Rattle.std.specs.Prelude.{map}
use Rattle.turn_lists.specs.Counts.{many_of}
use Rattle.turn_lists.specs.declared.actor.Turn.{Turn}
use Rattle.turn_lists.proofs.few.first_row.Given as goal

abbrev pub invariant-loop-turn : goal.invariant-loop-turn
invariant-loop-turn l =
    l.row ≡ map (λ (g : Turn). many_of l.greatest 0 (Some g.actor)) (take l._turn-index l.greatest)
