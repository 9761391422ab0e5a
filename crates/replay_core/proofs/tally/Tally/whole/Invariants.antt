use Rattle.std.proofs.Common.{◌≡◌, ◌<◌, ℕ, slice_index}
use Rattle.replay_core.specs.Tallies.{count_of}
use Rattle.replay_core.proofs.tally.Tally.whole.Given as goal

abbrev pub invariant-loop-core : goal.invariant-loop-core
invariant-loop-core l = (i : ℕ) → i < l.core → count_of l.self.counts i ≡ slice_index l.self.plan.totals i
