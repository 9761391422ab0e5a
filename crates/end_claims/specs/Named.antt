-- The places that a claim names.
use Rattle.std.specs.Prelude.{ℕ, nat_lt, ◌&&◌, Bool, true, List, [], ◌∷◌, ◌++◌, map, if◌then◌else◌}
use Rattle.std.specs.List.{flat_map, fold, list_all, list_any, range_with_len}
use Rattle.end_claims.specs.declared.claim.Atom.{Atom}
use Rattle.end_claims.specs.declared.claim.Atom.TheVariants.{Compares, Ends, AllEnd}
use Rattle.end_claims.specs.declared.claim.Place.{Place}
use Rattle.end_claims.specs.declared.claim.Place.TheVariants.{Word, Register, Ended}
use Rattle.end_claims.specs.declared.claim.Right.{Right}
use Rattle.end_claims.specs.declared.claim.Right.TheVariants.{Number, At}
use Rattle.end_claims.specs.Places.{same_place}

-- how each of so many cores ended
abbrev pub all_ended : (cores : ℕ) → List Place
all_ended cores = map (λ core. Ended core) (range_with_len 0 cores)

abbrev pub named_right : Right → List Place
named_right (Number number) = []
named_right (At place) = place ∷ []

-- the places that an atom names, from left to right; `all` names each core
abbrev pub named_in : (cores : ℕ) → Atom → List Place
named_in cores (Compares left by right) = left ∷ named_right right
named_in cores (Ends core stop) = Ended core ∷ []
named_in cores (AllEnd stop) = all_ended cores

-- the place at the end, where it isn't there already
abbrev pub with_place : List Place → Place → List Place
with_place places place = if list_any (same_place place) places then places else places ++ place ∷ []

-- each place once, where it first stands
unfoldable pub each_once : List Place → List Place
each_once places = fold with_place [] places

-- the places that a claim of a run with so many cores names, in the order in which they are first named
abbrev pub named_by : (cores : ℕ) → List (List Atom) → List Place
named_by cores claim = each_once (flat_map (flat_map (named_in cores)) claim)

-- a run with so many cores and words has the place
abbrev pub is_within : (cores words : ℕ) → Place → Bool
is_within cores words (Word word) = nat_lt word words
is_within cores words (Register core number) = nat_lt core cores
is_within cores words (Ended core) = nat_lt core cores

abbrev pub right_within : (cores words : ℕ) → Right → Bool
right_within cores words (Number number) = true
right_within cores words (At place) = is_within cores words place

-- it has what an atom names
abbrev pub within : (cores words : ℕ) → Atom → Bool
within cores words (Compares left by right) = is_within cores words left && right_within cores words right
within cores words (Ends core stop) = nat_lt core cores
within cores words (AllEnd stop) = true

-- it has all that a claim names
abbrev pub are_named_within : (cores words : ℕ) → List (List Atom) → Bool
are_named_within cores words claim = list_all (list_all (within cores words)) claim

-- it has each of the places
abbrev pub are_within : (cores words : ℕ) → List Place → Bool
are_within cores words places = list_all (is_within cores words) places
