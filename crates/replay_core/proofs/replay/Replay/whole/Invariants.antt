use Rattle.std.proofs.Common.{◌≡◌, ◌<◌, ℕ, get_or}
use Rattle.replay_core.specs.Orders.{counts_in}
use Rattle.replay_core.proofs.replay.Replay.whole.Given as goal

abbrev pub invariant-loop-core : goal.invariant-loop-core
invariant-loop-core l = (c : ℕ) → c < l.core → counts_in l.self.state c ≡ get_or l.self.plan.totals c 0
