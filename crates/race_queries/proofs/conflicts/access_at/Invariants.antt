use Rattle.std.proofs.Common.{◌≡◌, drop}
use Rattle.race_queries.specs.Conflicts.{access_at}
use Rattle.race_queries.proofs.conflicts.access_at.Given as goal

-- none of those so far is the instruction's
abbrev pub invariant-loop-access : goal.invariant-loop-access
invariant-loop-access l = access_at l.at l.accesses ≡ access_at l.at (drop l.access-index l.accesses)
