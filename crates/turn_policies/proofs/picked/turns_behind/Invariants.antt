use Rattle.std.proofs.Common.{◌≡◌, ◌++◌, drop}
use Rattle.turn_policies.specs.PickedTurns.{turns_behind}
use Rattle.turn_policies.proofs.picked.turns_behind.Given as goal

-- what is done, and then what the last turn and the other picks come to, is what all come to
abbrev pub invariant-loop-actor : goal.invariant-loop-actor
invariant-loop-actor l = l.turns ++ turns_behind l.last (drop l.actor-index l.rest) ≡ turns_behind l.fn.first l.rest
