use Rattle.std.proofs.Common.{◌≡◌}
use Rattle.std.specs.Option.{IfSome}
use Rattle.turn_lists.specs.declared.actor.Actor.{Actor}
use Rattle.small_turns.specs.Acts.{made_by}
use Rattle.small_turns.specs.Orders.{held}
use Rattle.small_turns.proofs.orders.best_order.Given as goal

-- the best order so far has all acts
abbrev pub invariant-loop-first : goal.invariant-loop-first
invariant-loop-first l = IfSome l.best (λ order. (a : Actor) → made_by a order ≡ held a l.lines)
