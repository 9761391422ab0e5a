use Rattle.std.proofs.Common.{◌≡◌, ◌++◌, take}
use Rattle.min_certificate.proofs.exact_clocks.put_counts.Given as goal

abbrev pub invariant-loop-count : goal.invariant-loop-count
invariant-loop-count l = l.counts ≡ l.fn.counts ++ take l.count-index l.count-items
