use Rattle.std.proofs.Common.{◌≡◌, true}
use Rattle.small_turns.specs.Passes.{IsNoLarger, weight}
use Rattle.small_turns.proofs.least.least_of.Given as goal

abbrev pub invariant-loop-now : goal.invariant-loop-now
invariant-loop-now g l = record {
  breaks : g.T.Tries.breaks l.tries l.now.turns ≡ true;
  no_larger : IsNoLarger l.fn.first.turns l.now.turns;
  bench : g.T.Tries.serves l.tries l.now.bench;
}

abbrev pub decreases-loop-now : goal.decreases-loop-now
decreases-loop-now g l = weight l.now.turns
