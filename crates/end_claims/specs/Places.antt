-- Places that have a value at the end of a run.
use Rattle.std.specs.Prelude.{◌&&◌, ◌==◌, Bool, false}
use Rattle.end_claims.specs.declared.claim.Place.{Place}
use Rattle.end_claims.specs.declared.claim.Place.TheVariants.{Word, Register, Ended}

-- they are one place
abbrev pub same_place : Place → Place → Bool
same_place (Word a) (Word b) = a == b
same_place (Register a k) (Register b l) = a == b && k == l
same_place (Ended a) (Ended b) = a == b
same_place _ _ = false
