-- The tables of a round's batches.
use Rattle.std.specs.Prelude.{ℕ, ◌+◌, ◌*◌, ◌<◌, Bool, IfOk, List, Result, length, slice_index_or}
use Rattle.run_ranges.specs.declared.rows.Row.{Row}
use Rattle.run_ranges.specs.Tables.{IsTable}

-- each of the answers that isn't an error is the table of its batch, of batches that begin at `from`
abbrev pub AreTables : {A E : Type 0} → (A → List Row) → (ends : ℕ → List ℕ) (breaks : ℕ → Bool) → (from batch : ℕ)
    → List (Result A E) → Type 0
AreTables {A} {E} rows ends breaks from batch tables = (i : ℕ) (d : Result A E) → i < length tables →
    IfOk (slice_index_or tables i d)
    (λ table. IsTable ends breaks (from + batch * i) (from + batch * (i + 1)) (rows table))
