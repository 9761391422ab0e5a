use Rattle.std.proofs.Common.{◌<◌, ℕ, get_or}
use Rattle.clock_entries.specs.Ends.{instr}
use Rattle.min_certificate.specs.Places.{IsGoodIn}
use Rattle.min_certificate.proofs.entries.Entries.first_bad_of.Given as goal

abbrev pub invariant-loop-before : goal.invariant-loop-before
invariant-loop-before l = (k : ℕ) → k < l.before → IsGoodIn l.self (instr l.core (get_or l.ends k 0))
