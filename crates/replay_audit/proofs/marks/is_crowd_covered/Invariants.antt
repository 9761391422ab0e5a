use Rattle.std.proofs.Common.{◌<◌, ◌≤◌, ℕ, slice_index}
use Rattle.replay_audit.proofs.marks.is_crowd_covered.Given as goal

abbrev pub invariant-loop-core : goal.invariant-loop-core
invariant-loop-core l = (k : ℕ) → k < l.core → slice_index l.crowd k ≤ slice_index l.clock k
