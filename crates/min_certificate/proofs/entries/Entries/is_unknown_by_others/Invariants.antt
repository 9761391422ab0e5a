use Rattle.std.proofs.Common.{◌≢◌, ◌<◌, ℕ}
use Rattle.min_certificate.specs.Places.{IsUnknownThere}
use Rattle.min_certificate.proofs.entries.Entries.is_unknown_by_others.Given as goal

abbrev pub invariant-loop-of : goal.invariant-loop-of
invariant-loop-of l = (i : ℕ) → i < l.of → i ≢ l.edge.to.core → IsUnknownThere l.self l.edge.from l.edge.to i
