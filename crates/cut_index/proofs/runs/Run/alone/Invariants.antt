use Rattle.std.proofs.Common.{◌≡◌}
use Rattle.cut_index.specs.Alone.{alone_after}
use Rattle.cut_index.proofs.runs.Run.alone.Given as goal

abbrev pub invariant-loop-done : goal.invariant-loop-done
invariant-loop-done l = l.alone ≡ alone_after l.program l.loads l.fn._first l._done
