use Rattle.std.proofs.Common.{◌≡◌, ◌++◌, drop}
use Rattle.turn_lists.specs.Turns.{joined_from}
use Rattle.turn_lists.proofs.joining.joined_from.Given as goal

-- what is done, and then what the last turn and the rest come to, is what all come to
abbrev pub invariant-loop-turn : goal.invariant-loop-turn
invariant-loop-turn l = l.list ++ joined_from l.last (drop l.turn-index l.rest) ≡ joined_from l.fn.first l.rest
