use Rattle.std.proofs.Common.{◌≡◌, replicate, []}
use Rattle.touch_judge.proofs.clocks.Clocks.new.Given as goal

abbrev pub invariant-loop-core : goal.invariant-loop-core
invariant-loop-core l = l.clocks.items ≡ replicate l.core []
