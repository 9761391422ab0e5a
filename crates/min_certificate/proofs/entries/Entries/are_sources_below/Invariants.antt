use Rattle.std.proofs.Common.{◌≢◌, ◌<◌, ℕ}
use Rattle.min_certificate.specs.Places.{IsSourceBelow}
use Rattle.min_certificate.proofs.entries.Entries.are_sources_below.Given as goal

abbrev pub invariant-loop-of : goal.invariant-loop-of
invariant-loop-of l = (i : ℕ) → i < l.of → i ≢ l.at.core → IsSourceBelow l.self l.at i l.here
