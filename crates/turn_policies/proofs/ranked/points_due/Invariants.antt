use Rattle.std.proofs.Common.{◌≡◌, ◌==◌, take}
use Rattle.std.specs.Prelude.{count_by}
use Rattle.turn_policies.proofs.ranked.points_due.Given as goal

abbrev pub invariant-loop-point : goal.invariant-loop-point
invariant-loop-point l = l.due ≡ count_by (λ p. p == 1) (take l.point-index l.points)
