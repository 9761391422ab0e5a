use Rattle.std.proofs.Common.{◌≡◌, ◌++◌, drop, filter}
use Rattle.race_queries.specs.Conflicts.{fights}
use Rattle.race_queries.proofs.conflicts.fighting.Given as goal

-- those so far, with those to come, are all
abbrev pub invariant-loop-other : goal.invariant-loop-other
invariant-loop-other l =
    l.list.items ++ filter (fights l.access) (drop l.other-index l.accesses) ≡ filter (fights l.access) l.accesses
