use Rattle.std.proofs.Common.{◌≡◌, replicate}
use Rattle.replay_core.proofs.tally.no_counts.Given as goal

abbrev pub invariant-loop-core : goal.invariant-loop-core
invariant-loop-core l = l.list.items ≡ replicate l.core 0
