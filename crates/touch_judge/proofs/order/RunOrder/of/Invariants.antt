-- the runs have come along a front of the low order
use Rattle.std.proofs.Common.{◌≡◌, ℕ, List}
use Rattle.race_log.specs.Sources.{log_edges}
use Rattle.replay_core.specs.Tallies.{count_of}
use Rattle.replay_core.proofs.Low.{left}
use Rattle.touch_judge.specs.Runs.{AreRuns, after_runs, no_counts_of}
use Rattle.touch_judge.proofs.RunWalk.{HasCome}
use Rattle.touch_judge.proofs.order.RunOrder.of.Given as goal

abbrev pub invariant-loop-core : goal.invariant-loop-core
invariant-loop-core l = record {
  come : (order : List ℕ) × HasCome l.fn.which l.recording order l.tally l.clocks;
  counts : l.tally.counts ≡ after_runs (no_counts_of l.recording) l.runs.items;
  runs : AreRuns (log_edges l.fn.which l.recording) (no_counts_of l.recording) l.runs.items;
}

abbrev pub decreases-loop-core : goal.decreases-loop-core
decreases-loop-core l = left l.tally.plan.totals (count_of l.tally.counts) 0
