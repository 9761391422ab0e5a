-- so many are up to the instruction
use Rattle.std.proofs.Common.{◌-◌, length}
use Rattle.replay_audit.specs.Clocks.{AreWithin}
use Rattle.replay_audit.proofs.log_clocks.number_from.Given as goal

abbrev pub invariant-loop-number : goal.invariant-loop-number
invariant-loop-number l = AreWithin l.list l.at.core l.at.count l.number

abbrev pub decreases-loop-number : goal.decreases-loop-number
decreases-loop-number l = length l.list - l.number
