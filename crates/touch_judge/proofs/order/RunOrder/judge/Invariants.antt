-- the touches of the runs so far are past
use Rattle.std.proofs.Common.{take}
use Rattle.touch_judge.specs.Runs.{after_runs, no_counts_of}
use Rattle.touch_judge.proofs.Verdict.{Judged}
use Rattle.touch_judge.proofs.order.RunOrder.judge.Given as goal

abbrev pub invariant-loop-run : goal.invariant-loop-run
invariant-loop-run l = Judged l.self.which l.self.recording l.touched
    (after_runs (no_counts_of l.self.recording) (take l.run-index l.run-items)) l.places l.marks
