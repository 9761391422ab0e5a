use Rattle.std.proofs.Common.{◌≡◌, ◌+◌, drop}
use Rattle.turn_lists.specs.declared.actor.Actor.{Actor}
use Rattle.small_turns.specs.Orders.{held, reached}
use Rattle.small_turns.proofs.orders.is_whole.Given as goal

-- each place so far is its line's end
abbrev pub invariant-loop-k : goal.invariant-loop-k
invariant-loop-k l = (a : Actor) →
    reached a l.lines l.places + held a (drop l.k l.lines)
    ≡ held a l.lines + reached a (drop l.k l.lines) (drop l.k l.places)
