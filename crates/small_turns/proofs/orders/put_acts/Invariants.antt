use Rattle.std.proofs.Common.{◌≡◌, ◌++◌, replicate}
use Rattle.small_turns.specs.Acts.{single_turn}
use Rattle.small_turns.proofs.orders.put_acts.Given as goal

abbrev pub invariant-loop-act : goal.invariant-loop-act
invariant-loop-act l = l.order ≡ l.fn.order ++ replicate l._act (single_turn l.actor)
