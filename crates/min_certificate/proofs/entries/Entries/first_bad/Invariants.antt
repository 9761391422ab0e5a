use Rattle.std.proofs.Common.{◌<◌, ℕ}
use Rattle.min_certificate.specs.Firsts.{AreGoodOf}
use Rattle.min_certificate.proofs.entries.Entries.first_bad.Given as goal

abbrev pub invariant-loop-core : goal.invariant-loop-core
invariant-loop-core l = (k : ℕ) → k < l.core → AreGoodOf l.self k
