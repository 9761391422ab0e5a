use Rattle.std.proofs.Common.{◌≡◌, take}
use Rattle.turn_lists.specs.declared.actor.Actor.{Actor}
use Rattle.small_turns.specs.Acts.{acts_of}
use Rattle.small_turns.specs.Orders.{held}
use Rattle.small_turns.proofs.lines.lines_of.Given as goal

-- the acts so far lie in the lines
abbrev pub invariant-loop-act : goal.invariant-loop-act
invariant-loop-act l = (a : Actor) → held a l.lines.items ≡ acts_of a (take l.act-index l.acts)
