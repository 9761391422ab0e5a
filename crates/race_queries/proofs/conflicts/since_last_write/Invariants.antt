use Rattle.std.proofs.Common.{◌≡◌, ◌++◌, drop, take}
use Rattle.race_queries.specs.Conflicts.{before, since_last_write}
use Rattle.race_queries.proofs.conflicts.since_last_write.Given as goal

-- of those so far the last write and what follows it, and none of them is the instruction's
abbrev pub invariant-loop-access : goal.invariant-loop-access
invariant-loop-access l = record {
  near : l.near ≡ since_last_write (take l.access-index l.accesses);
  front : before l.at l.accesses ≡ take l.access-index l.accesses ++ before l.at (drop l.access-index l.accesses);
}
