use Rattle.std.proofs.Common.{◌≡◌}
use Rattle.small_turns.proofs.lines.line_of.Given as goal

abbrev pub invariant-loop-k : goal.invariant-loop-k
invariant-loop-k l = l.lines.items ≡ l.fn.lines.items
