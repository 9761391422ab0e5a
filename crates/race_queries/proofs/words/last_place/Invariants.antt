use Rattle.std.proofs.Common.{◌≤◌, drop, length}
use Rattle.race_queries.specs.Queries.{NoWriteIn}
use Rattle.race_queries.proofs.words.last_place.Given as goal

-- from the place on there is no such write
abbrev pub invariant-loop-k : goal.invariant-loop-k
invariant-loop-k l = record {
  within : l.k ≤ length l.list;
  none : NoWriteIn (drop l.k l.list) l.cut l.fn.word;
}

abbrev pub decreases-loop-k : goal.decreases-loop-k
decreases-loop-k l = l.k
