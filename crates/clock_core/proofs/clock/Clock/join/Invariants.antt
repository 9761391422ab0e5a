use Rattle.std.proofs.Common.{◌≡◌, ℕ, ◌<◌, ◌≤◌, max, slice_index, length}
use Rattle.rtr_types.specs.declared.TheConstants.{CORES_MAX}
use Rattle.clock_core.proofs.clock.Clock.join.Given as goal

abbrev pub invariant-loop-core : goal.invariant-loop-core
invariant-loop-core l = record {
  self_len : length l.fn.self ≡ CORES_MAX;
  other_len : length l.fn.other ≡ CORES_MAX;
  len : length l.counts ≡ CORES_MAX;
  done : (k : ℕ) → k < l.core → slice_index l.counts k ≡ max (slice_index l.fn.self k) (slice_index l.fn.other k);
  rest : (k : ℕ) → l.core ≤ k → slice_index l.counts k ≡ slice_index l.fn.self k;
}
