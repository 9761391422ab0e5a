use Rattle.std.proofs.Common.{◌≡◌, length}
use Rattle.link_order.proofs.Link.new.Given as goal

-- so many places are made so far
abbrev pub invariant-loop-made : goal.invariant-loop-made
invariant-loop-made g l = length l.slots.items ≡ l.made
