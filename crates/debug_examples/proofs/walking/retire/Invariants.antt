use Rattle.std.proofs.Common.{◌≡◌}
use Rattle.debug_examples.proofs.walking.retire.Given as goal

abbrev pub invariant-loop-core : goal.invariant-loop-core
invariant-loop-core l = l.replay.plan ≡ l.fn.replay.plan
