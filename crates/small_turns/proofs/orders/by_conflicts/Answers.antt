use Rattle.std.proofs.Common.{◌∙◌, ap}
use Rattle.small_turns.specs.Orders.{held}
use Rattle.small_turns.proofs.orders.by_conflicts.Goals as goal

pub returns-in-Some : goal.returns-in-Some
returns-in-Some c =
    let has = rw c.in-Some.is at c.in_ok-order.ensures in
    λ a. has a ∙ ap (held a) c.as_slice.ensures.value ∙ c.in_ok-lines.ensures a
