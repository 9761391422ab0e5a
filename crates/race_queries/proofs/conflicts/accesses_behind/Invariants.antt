use Rattle.std.proofs.Common.{◌≡◌, drop}
use Rattle.race_queries.specs.Conflicts.{behind}
use Rattle.race_queries.proofs.conflicts.accesses_behind.Given as goal

-- none of those so far is the instruction's
abbrev pub invariant-loop-k : goal.invariant-loop-k
invariant-loop-k l = behind l.at l.accesses ≡ behind l.at (drop l.k l.accesses)
