use Rattle.std.proofs.Common.{◌≡◌, ◌<◌, length}
use Rattle.turn_lists.specs.declared.actor.Actor.{Actor}
use Rattle.small_turns.specs.Acts.{made_by}
use Rattle.small_turns.specs.Orders.{reached}
use Rattle.small_turns.proofs.orders.order_from.Given as goal

-- the order has the acts before the places
abbrev pub invariant-loop-turn : goal.invariant-loop-turn
invariant-loop-turn l = record {
  now : l.now < length l.lines;
  long : length l.places.items ≡ length l.lines;
  before : (a : Actor) → made_by a l.order ≡ reached a l.lines l.places.items;
}
