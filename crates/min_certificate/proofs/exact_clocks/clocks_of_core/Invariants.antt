use Rattle.std.proofs.Common.{◌≡◌, ◌<◌, ◌*◌, ℕ, [], length, get_or}
use Rattle.certificate_codec.specs.Rows.{rows}
use Rattle.min_certificate.specs.Clocks.{end_of, IsEntryOf}
use Rattle.min_certificate.proofs.exact_clocks.clocks_of_core.Given as goal

-- the clocks so far are rows of the counts so far
abbrev pub invariant-loop-count : goal.invariant-loop-count
invariant-loop-count l = record {
  long : length l.counts ≡ l.count-index * l.cores;
  each : (k : ℕ) → k < l.count-index →
      IsEntryOf l.audited.recording l.core (end_of l.audited.recording l.core k)
      (get_or (rows l.cores l.count-index l.counts) k []);
}
