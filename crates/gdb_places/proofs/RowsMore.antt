-- The rows of one core more.
use Rattle.std.proofs.Common.{◌≡◌, ℕ, ◌+◌, List, ◌++◌, sym, ap, ◌∙◌, add-one, append_assoc}
use Rattle.std.proofs.lemmas.List.{append-nil}
use Rattle.debug_place.specs.Places.{Placed}
use Rattle.gdb_places.specs.Threads.{row_text, rows_text}

pub rows_none : (place : Placed) (out : List ℕ) → out ≡ out ++ rows_text place 0
unfolding rows_text
rows_none place out = sym (append-nil out)

rows_more : (place : Placed) (core : ℕ) → rows_text place (core + 1) ≡ rows_text place core ++ row_text place core
unfolding rows_text
rows_more place core = ap (rows_text place) (add-one core)

pub rows_step : (place : Placed) (first old new : List ℕ) (core : ℕ) → old ≡ first ++ rows_text place core →
    new ≡ old ++ row_text place core → new ≡ first ++ rows_text place (core + 1)
rows_step place first old new core before more =
    more ∙ ap (λ xs. xs ++ row_text place core) before ∙ append_assoc first (rows_text place core) (row_text place core)
    ∙ ap (λ xs. first ++ xs) (sym (rows_more place core))
