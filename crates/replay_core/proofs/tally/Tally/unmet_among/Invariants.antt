use Rattle.std.proofs.Common.{◌<◌, ◌≤◌, ℕ, slice_index}
use Rattle.replay_core.specs.Tallies.{count_of}
use Rattle.replay_core.proofs.tally.Tally.unmet_among.Given as goal

abbrev pub invariant-loop-of : goal.invariant-loop-of
invariant-loop-of l = (i : ℕ) → i < l.of → slice_index l.wanted i ≤ count_of l.self.counts i
