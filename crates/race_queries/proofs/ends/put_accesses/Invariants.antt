use Rattle.std.proofs.Common.{◌≤◌, length, drop}
use Rattle.race_queries.specs.Ends.{HasAccesses}
use Rattle.race_queries.proofs.ends.put_accesses.Given as goal

-- the accesses from a place of the list on are kept
abbrev pub invariant-loop-k : goal.invariant-loop-k
invariant-loop-k l = record {
  most : l.k ≤ length l.accesses;
  kept : HasAccesses l.initial.kept l.kept (drop l.k l.accesses);
}

abbrev pub decreases-loop-k : goal.decreases-loop-k
decreases-loop-k l = l.k
