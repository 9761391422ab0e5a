use Rattle.std.proofs.Common.{◌-◌, ◌≡◌, ◌<◌, ◌≤◌, false, true}
use Rattle.turn_lists.specs.Turns.{count_at, with_count}
use Rattle.small_turns.proofs.halving.short_count.Given as goal

-- the higher count breaks the claim, and the one below the lower one doesn't
abbrev pub invariant-loop-low : goal.invariant-loop-low
invariant-loop-low g l = record {
  most : l.high ≤ count_at l.place l.turns;
  order : 1 < l.low → l.low ≤ l.high;
  breaks : g.T.Tries.breaks l.tries (with_count l.place l.high l.turns) ≡ true;
  least : 1 < l.low → g.T.Tries.breaks l.tries (with_count l.place (l.low - 1) l.turns) ≡ false;
  bench : g.T.Tries.serves l.tries l.bench;
}

abbrev pub decreases-loop-low : goal.decreases-loop-low
decreases-loop-low g l = l.high - l.low
