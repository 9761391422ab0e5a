-- The parts of a core file, one behind the other, are the file.
use Rattle.std.proofs.Common.{Err, Ok, OnOk, Result, ◌≡◌, ℕ, ◌+◌, ◌<◌, List, []}
use Rattle.std.proofs.Common.{◌∷◌, ◌++◌, append_assoc, append-nil, drop, take, sym, ap, ◌∙◌, length}
use Rattle.std.proofs.lemmas.List.{take_more}
use Rattle.std.proofs.lemmas.List.Concat.{flat_map-append}
use Rattle.std.specs.Prelude.{slice_index_or}
use Rattle.std.specs.Int.{to_le_bytes, w32}
use Rattle.rv_core.specs.declared.core_state.Core.{Core}
use Rattle.rv_core.specs.declared.core_state.Halt.TheVariants.{Running}
use Rattle.rv_core.specs.declared.outcome.Outcome.{Outcome}
use Rattle.rv_core.specs.States.{starting}
use Rattle.core_file.specs.CoreFiles.{core_bytes_of, header, memory_segment, note_of, notes_of, notes_segment}
use Rattle.core_file.specs.CoreFiles.{spelled}

pub spelled_both : (a b : List ℕ) → spelled (a ++ b) ≡ spelled a ++ spelled b
spelled_both a b = flat_map-append (to_le_bytes w32) a b

-- two parts put one behind the other
pub put_both : (old mid new a b : List ℕ) → mid ≡ old ++ spelled a → new ≡ mid ++ spelled b →
    new ≡ old ++ spelled (a ++ b)
put_both old mid new a b first second =
    second ∙ ap (λ (l : List ℕ). l ++ spelled b) first ∙ append_assoc old (spelled a) (spelled b)
    ∙ ap (λ (l : List ℕ). old ++ l) (sym (spelled_both a b))

pub on_ok : {A E : Type 0} {P Q : Type 0} (o : Result A E) → OnOk o P → (P → Q) → OnOk o Q
on_ok (Ok a) h f = f h
on_ok (Err e) h f = tt

-- the notes of the core in front and of the others
notes_are : (core : Core) (before behind : List Core) →
    notes_of (core ∷ (before ++ behind)) ≡ note_of core ++ (notes_of before ++ notes_of behind)
notes_are core before behind =
    ap (λ (l : List ℕ). note_of core ++ l) (flat_map-append note_of before behind)

-- seven parts, one behind the other
nested : (a b c d e f g : List ℕ) →
    ((((a ++ (b ++ c)) ++ d) ++ e) ++ f) ++ g ≡ a ++ (b ++ (c ++ ((d ++ (e ++ f)) ++ g)))
nested a b c d e f g =
    ap (λ (l : List ℕ). (l ++ f) ++ g) (append_assoc (a ++ (b ++ c)) d e)
    ∙ ap (λ (l : List ℕ). l ++ g) (append_assoc (a ++ (b ++ c)) (d ++ e) f)
    ∙ ap (λ (l : List ℕ). ((a ++ (b ++ c)) ++ l) ++ g) (append_assoc d e f)
    ∙ append_assoc (a ++ (b ++ c)) (d ++ (e ++ f)) g
    ∙ append_assoc a (b ++ c) ((d ++ (e ++ f)) ++ g)
    ∙ ap (λ (l : List ℕ). a ++ l) (append_assoc b c ((d ++ (e ++ f)) ++ g))

-- the file with these notes
abbrev with_notes : Outcome → List ℕ → List ℕ
with_notes outcome notes =
    spelled (header ++ (notes_segment (length outcome.cores)
    ++ (memory_segment (length outcome.cores) (length outcome.words) ++ (notes ++ outcome.words))))

-- the headers, the note of the core in front, the notes of the cores before and behind it, and the memory
pub file_is : (outcome : Outcome) (first : ℕ) (core : Core) (file : List ℕ) →
    core ≡ slice_index_or outcome.cores first (starting 0 0) →
    file
    ≡ spelled (((((header ++ (notes_segment (length outcome.cores)
    ++ memory_segment (length outcome.cores) (length outcome.words))) ++ note_of core)
    ++ notes_of (take first outcome.cores)) ++ notes_of (drop (first + 1) outcome.cores)) ++ outcome.words) →
    file ≡ core_bytes_of first outcome
file_is outcome first core file front is =
    is
    ∙ ap spelled (nested header (notes_segment (length outcome.cores))
    (memory_segment (length outcome.cores) (length outcome.words)) (note_of core)
    (notes_of (take first outcome.cores)) (notes_of (drop (first + 1) outcome.cores)) outcome.words)
    ∙ ap (λ (l : List ℕ). with_notes outcome l)
    (sym (notes_are core (take first outcome.cores) (drop (first + 1) outcome.cores)))
    ∙ ap (λ (k : Core). with_notes outcome
    (notes_of (k ∷ (take first outcome.cores ++ drop (first + 1) outcome.cores)))) front

-- one note more
pub notes_more : (cores : List Core) (k : ℕ) (d : Core) → k < length cores →
    notes_of (take (k + 1) cores) ≡ notes_of (take k cores) ++ note_of (slice_index_or cores k d)
notes_more cores k d lt =
    let core = slice_index_or cores k d in
    ap notes_of (take_more cores k d lt) ∙ flat_map-append note_of (take k cores) (core ∷ [])
    ∙ ap (λ (l : List ℕ). notes_of (take k cores) ++ l) (append-nil (note_of core))

-- what stands where no core does
abbrev pub no_core : Core
no_core = record { id = 0; limit = 0; count = 0; pc = 0; registers = []; halt = Running }
