use Rattle.std.proofs.Common.{◌≡◌, replicate, []}
use Rattle.min_certificate.proofs.core_accesses.no_places.Given as goal

abbrev pub invariant-loop-core : goal.invariant-loop-core
invariant-loop-core l = l.places.items ≡ replicate l.core []
