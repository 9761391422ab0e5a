use Rattle.std.proofs.Common.{◌≡◌, take}
use Rattle.std.specs.Prelude.{map}
use Rattle.hunt_runs.proofs.numbered.actors_of.Given as goal

abbrev pub invariant-loop-turn : goal.invariant-loop-turn
invariant-loop-turn l = l.actors.items ≡ map (λ t. t.actor) (take l.turn-index l.turns)
