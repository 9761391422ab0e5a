-- What a claim says of the end of a run.
use Rattle.std.specs.Prelude.{ℕ, ◌==◌, Bool, int_lt, not, List, length}
use Rattle.std.specs.List.{list_all, list_any, range_with_len}
use Rattle.rv_core.specs.Operations.{signed}
use Rattle.rv_core.specs.declared.core_state.Stop.{Stop}
use Rattle.end_claims.specs.declared.claim.Atom.{Atom}
use Rattle.end_claims.specs.declared.claim.Atom.TheVariants.{Compares, Ends, AllEnd}
use Rattle.end_claims.specs.declared.claim.Comparison.{Comparison}
use Rattle.end_claims.specs.declared.claim.Comparison.TheVariants.{Equal, Unequal, Less, AtMost, More, AtLeast}
use Rattle.end_claims.specs.declared.claim.Right.{Right}
use Rattle.end_claims.specs.declared.claim.Right.TheVariants.{Number, At}
use Rattle.end_claims.specs.Ends.{End, stop_at, stop_number, value_at}

-- the left word compares so with the right one: as words, or as signed words
abbrev pub compares : Comparison → (left right : ℕ) → Bool
compares Equal left right = left == right
compares Unequal left right = not (left == right)
compares Less left right = int_lt (signed left) (signed right)
compares AtMost left right = not (int_lt (signed right) (signed left))
compares More left right = int_lt (signed right) (signed left)
compares AtLeast left right = not (int_lt (signed left) (signed right))

-- the value of a right side
abbrev pub right_at : End → Right → ℕ
right_at end (Number number) = number
right_at end (At place) = value_at end place

-- the core ended by the stop
abbrev pub ends_by : End → Stop → (core : ℕ) → Bool
ends_by end stop core = stop_number (stop_at end core) == stop_number stop

abbrev pub atom_holds : End → Atom → Bool
atom_holds end (Compares left by right) = compares by (value_at end left) (right_at end right)
atom_holds end (Ends core stop) = ends_by end stop core
atom_holds end (AllEnd stop) = list_all (ends_by end stop) (range_with_len 0 (length end.cores))

-- all atoms of some alternative hold
abbrev pub holds_at : End → List (List Atom) → Bool
holds_at end claim = list_any (list_all (atom_holds end)) claim
