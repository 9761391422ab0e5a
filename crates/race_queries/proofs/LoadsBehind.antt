-- The loads behind the last write, in the order of the list: none stands before the write, and behind it no other
-- write.
use Rattle.std.proofs.Common.{inl, inr, ◌≡◌, ◌⊎◌, ℕ, ◌+◌, ◌<◌, length, arith, Bool, true, false, List, [], ◌∷◌, ◌++◌}
use Rattle.std.proofs.Common.{take, drop, refl, sym}
use Rattle.std.proofs.Common.{ap, ◌∙◌, subst, append-nil, append_assoc, take-append-drop}
use Rattle.std.specs.Prelude.{cond, filter, slice_index_or}
use Rattle.std.proofs.lemmas.Bool.{cases_Bool}
use Rattle.std.proofs.lemmas.List.{drop_more}
use Rattle.rtr_types.specs.declared.access.Access.{Access}
use Rattle.rtr_types.specs.declared.cut.Cut.{Cut}
use Rattle.race_queries.specs.Places.{IsLastPlace}
use Rattle.race_queries.specs.Queries.{NoWriteIn, is_load_of, is_write_of, loads_behind}

module _ (cut : Cut) (word : ℕ) where
  -- without a write the loads are those of the list
  none_written : (list found : List Access) → NoWriteIn list cut word →
      loads_behind cut word found list ≡ found ++ filter (is_load_of cut word) list
  none_written [] found none = sym (append-nil found)
  none_written (x ∷ rest) found none =
      by (λ so_far. none_written rest so_far later) (cases_Bool (is_write_of cut word x))
      (cases_Bool (is_load_of cut word x))
    where
      later : NoWriteIn rest cut word
      later d is = none d (record { stands = inr is.stands; is = is.is })

      by : ((so_far : List Access) →
          loads_behind cut word so_far rest ≡ so_far ++ filter (is_load_of cut word) rest) →
          (is_write_of cut word x ≡ true) ⊎ (is_write_of cut word x ≡ false) →
          (is_load_of cut word x ≡ true) ⊎ (is_load_of cut word x ≡ false) →
          loads_behind cut word found (x ∷ rest) ≡ found ++ filter (is_load_of cut word) (x ∷ rest)
      by go (inl t) loads = absurd (none x (record { stands = inl refl; is = t }))
      by go (inr f) (inl t) =
          rw (f, t) (go (found ++ x ∷ [])
          ∙ append_assoc found (x ∷ []) (filter (is_load_of cut word) rest))
      by go (inr f) (inr g) = rw (f, g) (go found)

  -- what was found before a write is forgotten there
  written : (front : List Access) (x : Access) (rest found : List Access) → is_write_of cut word x ≡ true →
      loads_behind cut word found (front ++ x ∷ rest) ≡ loads_behind cut word [] rest
  written [] x rest found is = ap (λ (b : Bool). loads_behind cut word (cond b [] (cond (is_load_of cut word x)
      (found ++ x ∷ []) found)) rest) is
  written (y ∷ front) x rest found is =
      written front x rest (cond (is_write_of cut word y) [] (cond (is_load_of cut word y) (found ++ y ∷ []) found)) is

  some_of : (list : List Access) (place : ℕ) → place < length list → Access
  some_of [] place lt = absurd (omega arith)
  some_of (x ∷ rest) place lt = x

  behind_last : (list : List Access) (place : ℕ) → IsLastPlace list cut word place → (d : Access) →
      loads_behind cut word [] list ≡ loads_behind cut word [] (drop (place + 1) list)
  behind_last list place last d =
      ap (λ (l : List Access). loads_behind cut word [] l)
      (sym (take-append-drop place list)
      ∙ ap (λ (l : List Access). take place list ++ l) (drop_more list place d last.within))
      ∙ written (take place list) (slice_index_or list place d) (drop (place + 1) list) [] (last.write d)

  pub loads_are : (list : List Access) (from : ℕ) → NoWriteIn (drop from list) cut word →
      (from ≡ 0) ⊎ ((place : ℕ) × (from ≡ place + 1) × IsLastPlace list cut word place) →
      loads_behind cut word [] list ≡ filter (is_load_of cut word) (drop from list)
  loads_are list from none (inl start) =
      none_written list [] (subst (λ (n : ℕ). NoWriteIn (drop n list) cut word) start none)
      ∙ sym (ap (λ (n : ℕ). filter (is_load_of cut word) (drop n list)) start)
  loads_are list from none (inr (place, is, last)) =
      behind_last list place last (some_of list place last.within)
      ∙ none_written (drop (place + 1) list) [] (subst (λ (n : ℕ). NoWriteIn (drop n list) cut word) is none)
      ∙ sym (ap (λ (n : ℕ). filter (is_load_of cut word) (drop n list)) is)
