use Rattle.std.proofs.Common.{◌-◌, ◌≤◌, length}
use Rattle.small_turns.proofs.orders.reach.Given as goal

abbrev pub invariant-loop-to : goal.invariant-loop-to
invariant-loop-to l = l.fn.from ≤ l.to

abbrev pub decreases-loop-to : goal.decreases-loop-to
decreases-loop-to l = length l.waits - l.to
