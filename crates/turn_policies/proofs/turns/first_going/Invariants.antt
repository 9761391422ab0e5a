use Rattle.std.proofs.Common.{◌≡◌, drop}
use Rattle.turn_policies.specs.TurnByTurn.{turns_going}
use Rattle.turn_policies.proofs.turns.first_going.Given as goal

abbrev pub invariant-loop-place : goal.invariant-loop-place
invariant-loop-place l = turns_going l.actors (drop l.place l.turns) ≡ turns_going l.actors (drop l.from l.turns)
