use Rattle.std.proofs.Common.{◌≡◌, replicate}
use Rattle.clock_core.specs.Counts.{no_counts}
use Rattle.touch_judge.proofs.marks.Marks.new.Given as goal

abbrev pub invariant-loop-slot : goal.invariant-loop-slot
invariant-loop-slot l = l.marks.items ≡ replicate l.slot no_counts
