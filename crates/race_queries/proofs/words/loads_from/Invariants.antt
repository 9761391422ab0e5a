use Rattle.std.proofs.Common.{◌≡◌, ◌++◌, ◌-◌, drop, filter, length}
use Rattle.race_queries.specs.Queries.{is_load_of}
use Rattle.race_queries.proofs.words.loads_from.Given as goal

-- the loads so far, with those to come, are all
abbrev pub invariant-loop-k : goal.invariant-loop-k
invariant-loop-k l =
    l.list.items ++ filter (is_load_of l.cut l.fn.word) (drop l.k l.accesses)
    ≡ filter (is_load_of l.cut l.fn.word) (drop l.fn.from l.accesses)

abbrev pub decreases-loop-k : goal.decreases-loop-k
decreases-loop-k l = length l.accesses - l.k
