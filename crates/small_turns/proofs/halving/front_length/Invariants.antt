use Rattle.std.proofs.Common.{◌-◌, ◌≡◌, ◌≤◌, length, take, true}
use Rattle.small_turns.proofs.halving.front_length.Given as goal

abbrev pub invariant-loop-low : goal.invariant-loop-low
invariant-loop-low g l = record {
  within : l.high ≤ length l.turns;
  breaks : g.T.Tries.breaks l.tries (take l.high l.turns) ≡ true;
  bench : g.T.Tries.serves l.tries l.bench;
}

abbrev pub decreases-loop-low : goal.decreases-loop-low
decreases-loop-low g l = l.high - l.low
