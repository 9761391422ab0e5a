-- A machine that has all that a demand names has each place of it.
use Rattle.std.proofs.Common.{◌≡◌, ◌∙◌, refl, ℕ, zero, suc, ◌+◌, ◌≤◌, Bool, true, false, cond, List}
use Rattle.std.proofs.Common.{[], ◌∷◌, ◌++◌}
use Rattle.std.proofs.Common.{arith, map}
use Rattle.std.specs.List.{flat_map, fold, list_all, list_any, range_with_len}
use Rattle.std.proofs.lemmas.Bool.{and_from, and_parts, lt-ltb}
use Rattle.std.proofs.lemmas.List.Folds.{list_all-append}
use Rattle.end_claims.specs.declared.claim.Atom.{Atom}
use Rattle.end_claims.specs.declared.claim.Atom.TheVariants.{Compares, Ends, AllEnd}
use Rattle.end_claims.specs.declared.claim.Demand.{Demand}
use Rattle.end_claims.specs.declared.claim.Demand.TheVariants.{Expect, Never, Same}
use Rattle.end_claims.specs.declared.claim.Place.{Place}
use Rattle.end_claims.specs.declared.claim.Place.TheVariants.{Ended}
use Rattle.end_claims.specs.declared.claim.Right.TheVariants.{Number, At}
use Rattle.end_claims.specs.Demands.{demand_places, is_demanded_within}
use Rattle.end_claims.specs.Named.{are_named_within, are_within, each_once, is_within, named_by, named_in}
use Rattle.end_claims.specs.Named.{with_place, within}
use Rattle.end_claims.specs.Places.{same_place}

join : (cores words : ℕ) (front back : List Place) → are_within cores words front ≡ true
    → are_within cores words back ≡ true → are_within cores words (front ++ back) ≡ true
join cores words front back one other =
    list_all-append (is_within cores words) front back ∙ and_from _ _ one other

ended-within : (cores words a n : ℕ) → a + n ≤ cores →
    are_within cores words (map (λ core. Ended core) (range_with_len a n)) ≡ true
ended-within cores words a zero h = refl
ended-within cores words a (suc n) h =
    and_from _ _ (lt-ltb a cores (omega arith)) (ended-within cores words (a + 1) n (omega arith))

atom-within : (cores words : ℕ) (atom : Atom) → within cores words atom ≡ true
    → are_within cores words (named_in cores atom) ≡ true
atom-within cores words (Compares left by (Number number)) h = h
atom-within cores words (Compares left by (At place)) h =
    let parts = and_parts (is_within cores words left) (is_within cores words place) h in
    and_from _ _ parts.0 (and_from _ _ parts.1 refl)
atom-within cores words (Ends core stop) h = and_from _ _ h refl
atom-within cores words (AllEnd stop) h = ended-within cores words 0 cores (omega arith)

atoms-within : (cores words : ℕ) (atoms : List Atom) → list_all (within cores words) atoms ≡ true
    → are_within cores words (flat_map (named_in cores) atoms) ≡ true
atoms-within cores words [] h = refl
atoms-within cores words (atom ∷ atoms) h =
    let parts = and_parts (within cores words atom) (list_all (within cores words) atoms) h in
    join cores words (named_in cores atom) (flat_map (named_in cores) atoms) (atom-within cores words atom parts.0)
    (atoms-within cores words atoms parts.1)

claim-within : (cores words : ℕ) (claim : List (List Atom)) → are_named_within cores words claim ≡ true
    → are_within cores words (flat_map (flat_map (named_in cores)) claim) ≡ true
claim-within cores words [] h = refl
claim-within cores words (atoms ∷ claim) h =
    let parts = and_parts (list_all (within cores words) atoms) (are_named_within cores words claim) h in
    join cores words (flat_map (named_in cores) atoms) (flat_map (flat_map (named_in cores)) claim)
    (atoms-within cores words atoms parts.0) (claim-within cores words claim parts.1)

-- each place once are some of the places
more-within : (cores words : ℕ) (places : List Place) (place : Place) → are_within cores words places ≡ true
    → is_within cores words place ≡ true → are_within cores words (with_place places place) ≡ true
more-within cores words places place some one = by (list_any (same_place place) places)
  where
    by : (b : Bool) → are_within cores words (cond b places (places ++ place ∷ [])) ≡ true
    by true = some
    by false = join cores words places (place ∷ []) some (and_from _ _ one refl)

fold-within : (cores words : ℕ) (places more : List Place) → are_within cores words places ≡ true
    → are_within cores words more ≡ true → are_within cores words (fold with_place places more) ≡ true
fold-within cores words places [] some h = some
fold-within cores words places (place ∷ more) some h =
    let parts = and_parts (is_within cores words place) (are_within cores words more) h in
    fold-within cores words (with_place places place) more (more-within cores words places place some parts.0) parts.1

named-within : (cores words : ℕ) (claim : List (List Atom)) → are_named_within cores words claim ≡ true
    → are_within cores words (named_by cores claim) ≡ true
unfolding each_once
named-within cores words claim h =
    fold-within cores words [] (flat_map (flat_map (named_in cores)) claim) refl (claim-within cores words claim h)

pub demanded-within : (cores words : ℕ) (demand : Demand) → is_demanded_within cores words demand ≡ true
    → are_within cores words (demand_places cores demand) ≡ true
demanded-within cores words (Expect claim) h = named-within cores words claim h
demanded-within cores words (Never claim) h = named-within cores words claim h
demanded-within cores words (Same places) h = h
