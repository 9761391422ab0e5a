use Rattle.std.proofs.Common.{◌≡◌, ◌-◌}
use Rattle.turn_policies.specs.Ranked.{lowered_times, points_due}
use Rattle.turn_policies.proofs.ranked.lower_due.Given as goal

abbrev pub invariant-loop-done : goal.invariant-loop-done
invariant-loop-done l =
    lowered_times (points_due l.points - l._done) l.actors l.order
    ≡ lowered_times (points_due l.points) l.actors l.fn.order
