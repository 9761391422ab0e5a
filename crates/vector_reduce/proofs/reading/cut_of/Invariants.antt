use Rattle.std.proofs.Common.{◌≡◌, ◌<◌, ◌≤◌, ℕ, length, get_or}
use Rattle.rtr_types.specs.declared.TheConstants.{CORES_MAX}
use Rattle.vector_reduce.proofs.reading.cut_of.Given as goal

abbrev pub invariant-loop-core : goal.invariant-loop-core
invariant-loop-core l = record {
  wide : length l.places ≡ CORES_MAX;
  done : (c : ℕ) → c < l.core → get_or l.places c 0 ≡ get_or l.counts c 0;
  rest : (c : ℕ) → l.core ≤ c → get_or l.places c 0 ≡ 0;
}
