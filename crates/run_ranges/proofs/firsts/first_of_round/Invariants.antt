use Rattle.std.proofs.Common.{◌+◌, ◌*◌}
use Rattle.run_ranges.specs.Firsts.{NoneBreaks}
use Rattle.run_ranges.proofs.firsts.first_of_round.Given as goal

-- none in the batches so far
abbrev pub invariant-loop-i : goal.invariant-loop-i
invariant-loop-i g l = NoneBreaks (g.T.Trial.breaks l.trial) l.fn.from (l.fn.from + l.fn.batch * l.i)
