use Rattle.std.proofs.Common.{◌≡◌, ◌<◌, ℕ, length, get_or}
use Rattle.rtr_types.specs.declared.TheConstants.{CORES_MAX}
use Rattle.cut_moves.specs.Unions.{chosen}
use Rattle.cut_moves.proofs.lattice.merged.Given as goal

abbrev pub invariant-loop-core : goal.invariant-loop-core
invariant-loop-core l = record {
  wide : length l.counts ≡ CORES_MAX;
  done : (i : ℕ) → i < l.core →
      get_or l.counts i 0 ≡ chosen l.greater (get_or l.cut.counts i 0) (get_or l.other.counts i 0);
}
