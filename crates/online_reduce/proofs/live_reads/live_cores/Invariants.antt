use Rattle.online_reduce.proofs.SetReads.{Finding}
use Rattle.online_reduce.proofs.live_reads.live_cores.Given as goal

abbrev pub invariant-loop-left : goal.invariant-loop-left
invariant-loop-left l = Finding l.cores l.before l.access l.times l.live l.left

abbrev pub decreases-loop-left : goal.decreases-loop-left
decreases-loop-left l = l.left.bits
