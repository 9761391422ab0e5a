use Rattle.std.proofs.Common.{◌≡◌, ◌≤◌, length, drop}
use Rattle.wait_chains.specs.Chains.{last_wait}
use Rattle.wait_chains.proofs.chains.last_wait.Given as goal

-- the last wait among the edges from a place of the list on
abbrev pub invariant-loop-k : goal.invariant-loop-k
invariant-loop-k l = record {
  most : l.k ≤ length l.all;
  so_far : l.found ≡ last_wait l.fn.at (drop l.k l.all);
}

abbrev pub decreases-loop-k : goal.decreases-loop-k
decreases-loop-k l = l.k
