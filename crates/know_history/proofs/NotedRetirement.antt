-- A retirement is noted in the table of what was known.
use Rattle.std.proofs.Common.{◌≡◌, ◌≢◌, ◌∙◌, ap, refl, sym, ℕ, zero, suc, ◌+◌, ◌-◌, ◌<◌, ◌≤◌, ◌⊎◌, inl, inr, List, []}
use Rattle.std.proofs.Common.{◌∷◌, ◌++◌, length, get_or, max, arith}
use Rattle.std.proofs.Common.{length-append}
use Rattle.std.specs.Prelude.{slice_index, slice_index_or}
use Rattle.std.proofs.Math.Seq.{get_or-append_seam}
use Rattle.std.proofs.lemmas.Bool.{cases_eq}
use Rattle.std.proofs.lemmas.List.{get_or-set_other, get_or-set_same, get_or_append_left, length-set}
use Rattle.rtr_types.specs.declared.instr.Instr.{Instr}
use Rattle.clock_core.specs.Counts.{no_counts}
use Rattle.clock_core.specs.declared.clock.Clock.{Clock}
use Rattle.clock_core.proofs.MergedClocks.{get_or-merged}
use Rattle.know_history.specs.declared.known.Known.{Known}
use Rattle.know_history.specs.Knowledge.{count_in}
use Rattle.know_history.specs.Notes.{IsNoted, Notes, known_at, noted_count}
use Rattle.know_history.specs.Rows.{next_row, with_note, with_row}

-- what was noted last, with nothing noted before the first
last_row : (rows : List Clock) → get_or (no_counts ∷ rows) (length rows) no_counts ≡ get_or rows (length rows - 1)
    no_counts
last_row [] = refl
last_row (r ∷ rows) = let e : length (r ∷ rows) - 1 ≡ length rows = omega arith in
    ap (λ (i : ℕ). get_or (r ∷ rows) i no_counts) (sym e)

new_row : (rows : List Clock) (row : Clock) (count : ℕ) → count ≡ length rows + 1 →
    get_or (no_counts ∷ (rows ++ row ∷ [])) count no_counts ≡ row
new_row rows row count e = let f : count ≡ suc (length rows) = omega arith in
    rw f (get_or-append_seam rows row [] no_counts)

old_row : (rows : List Clock) (row : Clock) (count : ℕ) → count ≤ length rows →
    get_or (no_counts ∷ (rows ++ row ∷ [])) count no_counts
    ≡ get_or (no_counts ∷ rows) count no_counts
old_row rows row zero le = refl
old_row rows row (suc count) le = get_or_append_left rows (row ∷ []) no_counts count (omega arith)

pub is_noted : (old : Notes) (at : Instr) (known : Known) (new : Notes) → at.core < length old →
    at.count ≡ noted_count old at.core + 1 →
    new ≡ with_note old at known → IsNoted old at known new
is_noted old at known new within next is =
    record {
      cores = ap length is ∙ length-set old at.core (with_row rows known);
      count = ap length here ∙ (length-append rows (next_row rows known ∷ []) ∙ sym next);
      others = λ core apart. ap length (there core apart);
      greater = λ «of» other. greater «of»;
      kept = λ core count «of» other le. by core count «of» le (cases_eq core at.core);
    }
  where
    rows : List Clock
    rows = slice_index_or old at.core []

    here : slice_index_or new at.core [] ≡ with_row rows known
    here = ap (λ (lists : List (List Clock)). slice_index_or lists at.core []) is
        ∙ get_or-set_same old at.core (with_row rows known) [] within

    there : (core : ℕ) → core ≢ at.core → slice_index_or new core [] ≡ slice_index_or old core []
    there core apart = ap (λ (lists : List (List Clock)). slice_index_or lists core []) is
        ∙ get_or-set_other old at.core core (with_row rows known) [] apart

    greater : (of : ℕ) → known_at new at.core at.count «of» ≡ max (known_at old at.core (at.count - 1) «of»)
        (count_in known «of»)
    greater «of» =
        ap (λ (list : List Clock). slice_index (slice_index_or (no_counts ∷ list) at.count no_counts) «of») here
        ∙ (ap (λ (row : Clock). slice_index row «of») (new_row rows (next_row rows known) at.count next)
        ∙ (get_or-merged (slice_index_or rows (length rows - 1) no_counts) known.counts «of»
        ∙ ap (λ (row : Clock). max (slice_index row «of») (count_in known «of»)) (sym (last_row rows)
        ∙ ap (λ (i : ℕ). slice_index_or (no_counts ∷ rows) i no_counts) before)))
      where
        before : length rows ≡ at.count - 1
        before = let e = next in omega arith

    by : (core count of : ℕ) → count ≤ noted_count old core → (core ≡ at.core) ⊎ (core ≢ at.core) →
        known_at new core count «of» ≡ known_at old core count «of»
    by core count «of» le (inl e) =
        let le2 : count ≤ length rows = (let f : noted_count old core ≡ noted_count old at.core =
        ap (noted_count old) e in omega arith) in
        ap (λ (c : ℕ). known_at new c count «of») e
        ∙ (ap (λ (list : List Clock). slice_index (slice_index_or (no_counts ∷ list) count no_counts) «of») here
        ∙ (ap (λ (row : Clock). slice_index row «of») (old_row rows (next_row rows known) count le2)
        ∙ ap (λ (c : ℕ). known_at old c count «of») (sym e)))
    by core count «of» le (inr apart) = ap (λ (list : List Clock). slice_index (slice_index_or (no_counts ∷ list) count
        no_counts) «of») (there core apart)
