-- What is demanded of each run of a range.
use Rattle.std.specs.Prelude.{ℕ, Bool, not, List}
use Rattle.end_claims.specs.declared.claim.Demand.{Demand}
use Rattle.end_claims.specs.declared.claim.Demand.TheVariants.{Expect, Never, Same}
use Rattle.end_claims.specs.declared.claim.Place.{Place}
use Rattle.end_claims.specs.Ends.{End, have_values}
use Rattle.end_claims.specs.Meaning.{holds_at}
use Rattle.end_claims.specs.Named.{are_named_within, are_within, named_by}

-- the end breaks the demand, where the range's first run has the values `first` at the places of `Same`
abbrev pub breaks : End → Demand → (first : List ℕ) → Bool
breaks end (Expect claim) first = not (holds_at end claim)
breaks end (Never claim) first = holds_at end claim
breaks end (Same places) first = not (have_values end places first)

-- the places that the demand names
abbrev pub demand_places : (cores : ℕ) → Demand → List Place
demand_places cores (Expect claim) = named_by cores claim
demand_places cores (Never claim) = named_by cores claim
demand_places cores (Same places) = places

-- a run with so many cores and words has all that the demand names
abbrev pub is_demanded_within : (cores words : ℕ) → Demand → Bool
is_demanded_within cores words (Expect claim) = are_named_within cores words claim
is_demanded_within cores words (Never claim) = are_named_within cores words claim
is_demanded_within cores words (Same places) = are_within cores words places
