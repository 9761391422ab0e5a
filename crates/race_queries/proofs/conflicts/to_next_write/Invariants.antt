use Rattle.std.proofs.Common.{◌≡◌, ◌++◌, drop}
use Rattle.race_queries.specs.Conflicts.{behind, to_next_write}
use Rattle.race_queries.proofs.conflicts.to_next_write.Given as goal

-- those so far, and then those of the rest
abbrev pub invariant-loop-access : goal.invariant-loop-access
invariant-loop-access l =
    to_next_write (behind l.fn.at l.fn.accesses) ≡ l.next ++ to_next_write (drop l.access-index l.access-items)
