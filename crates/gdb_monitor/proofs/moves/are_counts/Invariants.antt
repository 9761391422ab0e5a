use Rattle.std.proofs.Common.{ℕ, ◌<◌, ◌≤◌, get_or}
use Rattle.gdb_monitor.proofs.moves.are_counts.Given as goal

-- each count so far is at most its core's total
abbrev pub invariant-loop-core : goal.invariant-loop-core
invariant-loop-core l = (i : ℕ) → i < l.core → get_or l.counts i 0 ≤ get_or l.totals i 0
