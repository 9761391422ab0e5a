use Rattle.std.proofs.Common.{◌≡◌, ◌*◌}
use Rattle.run_steps.specs.Ends.{words_in}
use Rattle.run_steps.proofs.ends.words_of.Given as goal

-- the words so far
abbrev pub invariant-loop-block : goal.invariant-loop-block
invariant-loop-block g l = l.list.items ≡ words_in (g.M.SteppedMachine.words l.machine) (l.block * 4)
