use Rattle.std.proofs.Common.{◌≡◌, ◌<◌, ◌≤◌, ℕ, length, get_or}
use Rattle.rtr_types.specs.declared.TheConstants.{CORES_MAX}
use Rattle.cut_replay.specs.ClosedCuts.{count_in}
use Rattle.cut_moves.specs.Steps.{AreFreeOf}
use Rattle.cut_moves.proofs.moves.without.Given as goal

abbrev pub invariant-loop-core : goal.invariant-loop-core
invariant-loop-core l = record {
  wide : length l.counts ≡ CORES_MAX;
  done : (c : ℕ) → c < l.core →
      AreFreeOf l.audited.which l.audited.recording l.at c (count_in l.cut c) (get_or l.counts c 0);
  rest : (c : ℕ) → l.core ≤ c → get_or l.counts c 0 ≡ 0;
}
