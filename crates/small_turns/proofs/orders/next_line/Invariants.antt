use Rattle.std.proofs.Common.{◌<◌, length}
use Rattle.small_turns.proofs.orders.next_line.Given as goal

abbrev pub invariant-loop-k : goal.invariant-loop-k
invariant-loop-k l = l.best < length l.lines
