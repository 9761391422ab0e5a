use Rattle.std.proofs.Common.{take}
use Rattle.min_certificate.proofs.AccessPlaces.{IndexedTo}
use Rattle.min_certificate.proofs.core_accesses.places_of.Given as goal

abbrev pub invariant-loop-index : goal.invariant-loop-index
invariant-loop-index l = IndexedTo l.fn.cores (take l.index l.accesses) l.places.items
