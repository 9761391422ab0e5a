use Rattle.std.proofs.Common.{◌≡◌, ◌<◌, ◌-◌, false, ℕ, length}
use Rattle.turn_lists.specs.Turns.{count_at, with_count}
use Rattle.small_turns.specs.Passes.{IsPass}
use Rattle.small_turns.proofs.passes.shorten.Given as goal

abbrev pub invariant-loop-place : goal.invariant-loop-place
invariant-loop-place g l = record {
  pass : IsPass (g.T.Tries.breaks l.tries) l.fn.before.turns l.fn.before.changed l.turns l.changed;
  long : length l.turns ≡ l.many;
  shortest : l.changed ≡ false → (k : ℕ) → k < l.place → 1 < count_at k l.turns →
      g.T.Tries.breaks l.tries (with_count k (count_at k l.turns - 1) l.turns) ≡ false;
  bench : g.T.Tries.serves l.tries l.bench;
}
