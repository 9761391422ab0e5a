use Rattle.std.proofs.Common.{◌≡◌, ◌<◌, false, ℕ, ◌+◌, ◌-◌, length}
use Rattle.turn_lists.specs.Turns.{left_out}
use Rattle.small_turns.specs.Passes.{IsPass, weight}
use Rattle.small_turns.proofs.passes.leave_out.Given as goal

abbrev pub invariant-loop-from : goal.invariant-loop-from
invariant-loop-from g l = record {
  pass : IsPass (g.T.Tries.breaks l.tries) l.fn.before.turns l.fn.before.changed l.turns l.changed;
  needed : l.size ≡ 1 → l.changed ≡ false → (k : ℕ) → k < l.from →
      g.T.Tries.breaks l.tries (left_out k (k + 1) l.turns) ≡ false;
  bench : g.T.Tries.serves l.tries l.bench;
}

abbrev pub decreases-loop-from : goal.decreases-loop-from
decreases-loop-from g l = weight l.turns + (length l.turns - l.from)
