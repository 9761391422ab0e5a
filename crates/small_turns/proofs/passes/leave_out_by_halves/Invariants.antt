use Rattle.small_turns.specs.Passes.{IsPass}
use Rattle.small_turns.proofs.passes.leave_out_by_halves.Given as goal

abbrev pub invariant-loop-size : goal.invariant-loop-size
invariant-loop-size g l = record {
  pass : IsPass (g.T.Tries.breaks l.tries) l.fn.before.turns l.fn.before.changed l.now.turns l.now.changed;
  bench : g.T.Tries.serves l.tries l.now.bench;
}

abbrev pub decreases-loop-size : goal.decreases-loop-size
decreases-loop-size g l = l.size
