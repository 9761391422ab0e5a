use Rattle.std.proofs.Common.{◌≡◌, ◌<◌, ℕ, length, get_or}
use Rattle.rtr_types.specs.declared.TheConstants.{CORES_MAX}
use Rattle.gdb_monitor.proofs.moves.cut_with_counts.Given as goal

-- the counts so far
abbrev pub invariant-loop-core : goal.invariant-loop-core
invariant-loop-core l = record {
  wide : length l.counts ≡ CORES_MAX;
  done : (i : ℕ) → i < l.core → get_or l.counts i 0 ≡ get_or l.given i 0;
}
