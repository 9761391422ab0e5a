use Rattle.std.proofs.Common.{◌≡◌, ◌-◌, ◌++◌, drop, take}
use Rattle.std.specs.Prelude.{map}
use Rattle.turn_policies.proofs.ranked.come_nearer.Given as goal

abbrev pub invariant-loop-place : goal.invariant-loop-place
invariant-loop-place l = l.points ≡ map (λ p. p - 1) (take l.place l.fn.points) ++ drop l.place l.fn.points
