use Rattle.std.proofs.Common.{◌≡◌, ◌<◌, ℕ, [], length, get_or}
use Rattle.min_certificate.specs.Clocks.{AreClocksOf}
use Rattle.min_certificate.proofs.exact_clocks.exact_clocks.Given as goal

abbrev pub invariant-loop-core : goal.invariant-loop-core
invariant-loop-core l = record {
  all : length l.clocks ≡ l.core;
  each : (k : ℕ) → k < l.core → AreClocksOf l.audited.recording k (get_or l.clocks k []);
}
