use Rattle.std.proofs.Common.{◌≤◌, ◌-◌, length}
use Rattle.wait_chains.proofs.Waits.{IsFront}
use Rattle.wait_chains.proofs.chains.chain_of.Given as goal

-- the edges so far, and then the chain from where they lead
abbrev pub invariant-loop-from : goal.invariant-loop-from
invariant-loop-from l = record {
  most : length l.list ≤ l.most;
  front : IsFront l.all l.fn.at l.most l.list l.from;
}

abbrev pub decreases-loop-from : goal.decreases-loop-from
decreases-loop-from l = l.most - length l.list
