use Rattle.std.proofs.Common.{length}
use Rattle.online_reduce.proofs.ReadLoop.{Added}
use Rattle.online_reduce.proofs.ListRests.{IsLeft, seen}
use Rattle.online_reduce.proofs.pair_lists.add_reads.Given as goal

-- the reads that were taken out were added
abbrev pub invariant-loop-from : goal.invariant-loop-from
invariant-loop-from l = IsLeft l.found l.left
    × Added l.cores l.at l.found l.fn.pairs l.pairs l.fn.clock l.clock l.edges (seen l.found l.left)

abbrev pub decreases-loop-from : goal.decreases-loop-from
decreases-loop-from l = length l.left
