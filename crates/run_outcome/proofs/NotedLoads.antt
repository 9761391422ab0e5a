-- The loads of each core after one more access.
use Rattle.std.proofs.Common.{◌≡◌, ◌≢◌, refl, ap, ◌∙◌, ℕ, zero, suc, ◌+◌, ◌<◌, ◌==◌, Bool, true, false, cond, ◌&&◌}
use Rattle.std.proofs.Common.{List, [], ◌∷◌, ◌++◌, append-nil, arith}
use Rattle.std.specs.Prelude.{map}
use Rattle.std.specs.List.{range_with_len}
use Rattle.std.proofs.lemmas.Bool.Decides.{nat_tests}
use Rattle.std.proofs.Math.Bool.{and-false}
use Rattle.rtr_types.specs.Accesses.{is_read}
use Rattle.rtr_types.specs.declared.access.Access.{Access}
use Rattle.rv_core.specs.declared.outcome.LoadNote.{LoadNote}
use Rattle.roomy_lists.specs.Lists.{with_item}
use Rattle.msi_state.specs.Runs.{loads_of}
use Rattle.run_outcome.specs.Loads.{lists_after, note_of}

-- the loads of each of n cores, from a core on
abbrev pub lists_of : List Access → (from n : ℕ) → List (List LoadNote)
lists_of accesses from n = map (λ c. loads_of c accesses) (range_with_len from n)

loads-append : (core : ℕ) (xs bs : List Access) → loads_of core (xs ++ bs) ≡ loads_of core xs ++ loads_of core bs
loads-append core [] bs = refl
loads-append core (a ∷ xs) bs = by_test ((a.at.core == core) && is_read a.kind) (loads-append core xs bs)
  where
    by_test : (b : Bool) → loads_of core (xs ++ bs) ≡ loads_of core xs ++ loads_of core bs →
        cond b (note_of a ∷ loads_of core (xs ++ bs)) (loads_of core (xs ++ bs)) ≡ cond b (note_of a ∷ loads_of core xs)
        (loads_of core xs) ++ loads_of core bs
    by_test true same = ap (λ (notes : List LoadNote). note_of a ∷ notes) same
    by_test false same = same

-- a load of the core, and any other access
own_load : (core : ℕ) (xs : List Access) (a : Access) → a.at.core ≡ core → is_read a.kind ≡ true →
    loads_of core (xs ++ a ∷ []) ≡ loads_of core xs
    ++ note_of a ∷ []
own_load core xs a own read = loads-append core xs (a ∷ []) ∙ ap (λ (notes : List LoadNote). loads_of core xs ++ notes)
    one
  where
    one : loads_of core (a ∷ []) ≡ note_of a ∷ []
    one = let is : (a.at.core == core) ≡ true = grind (arith, nat_tests) in rw (is, read) refl

no_load : (core : ℕ) (xs : List Access) (a : Access) → ((a.at.core == core) && is_read a.kind) ≡ false →
    loads_of core (xs ++ a ∷ []) ≡ loads_of core xs
no_load core xs a other = loads-append core xs (a ∷ []) ∙ ap (λ (notes : List LoadNote). loads_of core xs ++ notes) none
    ∙ append-nil (loads_of core xs)
  where
    none : loads_of core (a ∷ []) ≡ []
    none = rw other refl

others_load : (core : ℕ) (xs : List Access) (a : Access) → a.at.core ≢ core →
    loads_of core (xs ++ a ∷ []) ≡ loads_of core xs
others_load core xs a other = no_load core xs a (let is : (a.at.core == core) ≡ false = grind (arith, nat_tests) in
    rw is refl)

-- the lists of later cores are xs they were
later_lists : (xs : List Access) (a : Access) (from n : ℕ) → a.at.core < from →
    lists_of (xs ++ a ∷ []) from n ≡ lists_of xs from n
later_lists xs a from zero before = refl
later_lists xs a from (suc n) before =
    let head : loads_of from (xs ++ a ∷ []) ≡ loads_of from xs =
    others_load from xs a (λ is. omega (arith, before, is)) in
    let tail : lists_of (xs ++ a ∷ []) (from + 1) n ≡ lists_of xs (from + 1) n =
    later_lists xs a (from + 1) n (omega arith) in
    rw (head, tail) refl

-- a load is noted in its core's list
noted_from : (xs : List Access) (a : Access) (from n i : ℕ) → a.at.core ≡ from + i → is_read a.kind ≡ true →
    with_item (lists_of xs from n) i (note_of a)
    ≡ lists_of (xs ++ a ∷ []) from n
noted_from xs a from zero i at read = refl
noted_from xs a from (suc n) zero at read =
    let head : loads_of from (xs ++ a ∷ []) ≡ loads_of from xs ++ note_of a ∷ [] =
    own_load from xs a (omega arith) read in
    let tail : lists_of (xs ++ a ∷ []) (from + 1) n ≡ lists_of xs (from + 1) n =
    later_lists xs a (from + 1) n (omega arith) in
    rw (head, tail) refl
noted_from xs a from (suc n) (suc i) at read =
    let head : loads_of from (xs ++ a ∷ []) ≡ loads_of from xs = others_load from xs a (λ is. omega (arith, at, is)) in
    let tail : with_item (lists_of xs (from + 1) n) i (note_of a) ≡ lists_of (xs ++ a ∷ []) (from + 1) n =
    noted_from xs a (from + 1) n i (omega arith) read in
    rw head (ap (λ (lists : List (List LoadNote)). loads_of from xs ∷ lists) tail)

not_noted : (xs : List Access) (a : Access) (from n : ℕ) → is_read a.kind ≡ false →
    lists_of xs from n ≡ lists_of (xs ++ a ∷ []) from n
not_noted xs a from zero writes = refl
not_noted xs a from (suc n) writes =
    let head : loads_of from (xs ++ a ∷ []) ≡ loads_of from xs =
    no_load from xs a (rw writes (and-false (a.at.core == from))) in
    let tail : lists_of xs (from + 1) n ≡ lists_of (xs ++ a ∷ []) (from + 1) n = not_noted xs a (from + 1) n writes in
    rw head (ap (λ (lists : List (List LoadNote)). loads_of from xs ∷ lists) tail)

-- the lists after one more access are those of one access more
pub lists_more : (xs : List Access) (a : Access) (n : ℕ) → lists_after (lists_of xs 0 n) a ≡ lists_of (xs ++ a ∷ []) 0 n
lists_more xs a n = by_kind (is_read a.kind) refl
  where
    by_kind : (read : Bool) → is_read a.kind ≡ read → cond read (with_item (lists_of xs 0 n) a.at.core (note_of a))
        (lists_of xs 0 n)
        ≡ lists_of (xs ++ a ∷ []) 0 n
    by_kind true is = noted_from xs a 0 n a.at.core (omega arith) is
    by_kind false is = not_noted xs a 0 n is
