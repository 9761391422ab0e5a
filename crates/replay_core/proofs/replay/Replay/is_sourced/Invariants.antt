use Rattle.std.proofs.Common.{◌≢◌, ◌<◌, ℕ}
use Rattle.replay_core.specs.Orders.{counts_in}
use Rattle.replay_core.specs.Answers.{IsMet}
use Rattle.replay_core.proofs.replay.Replay.is_sourced.Given as goal

abbrev pub invariant-loop-of : goal.invariant-loop-of
invariant-loop-of l = (i : ℕ) → i < l.of → i ≢ l.core → IsMet l.self.plan.edges (counts_in l.self.state) i l.at
