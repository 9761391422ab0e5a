use Rattle.std.proofs.Common.{◌≡◌, ◌<◌, ◌≤◌, ℕ, length, get_or, slice_index}
use Rattle.rtr_types.specs.declared.TheConstants.{CORES_MAX}
use Rattle.cut_moves.proofs.moves.whole.Given as goal

abbrev pub invariant-loop-core : goal.invariant-loop-core
invariant-loop-core l = record {
  wide : length l.counts ≡ CORES_MAX;
  done : (c : ℕ) → c < l.core → get_or l.counts c 0 ≡ slice_index l.audited.recording.totals c;
  rest : (c : ℕ) → l.core ≤ c → get_or l.counts c 0 ≡ 0;
}
