use Rattle.std.proofs.Common.{◌≡◌, length}
use Rattle.link_order.proofs.Link.of_blanks.Given as goal

-- so many places are made so far
abbrev pub invariant-loop-blank : goal.invariant-loop-blank
invariant-loop-blank g l = length l.slots.items ≡ l.blank
