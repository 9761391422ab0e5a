use Rattle.std.proofs.Common.{List, ℕ, ◌++◌, ◌∙◌, ◌+◌, ap, arith, drop, length, take}
use Rattle.std.proofs.lemmas.List.{get_or_default, take_rest}
use Rattle.std.specs.Prelude.{slice_index_or}
use Rattle.rv_core.specs.States.{starting}
use Rattle.rv_core.specs.declared.core_state.Core.{Core}
use Rattle.rv_core.specs.declared.outcome.LoadNote.{LoadNote}
use Rattle.rv_core.specs.declared.outcome.Outcome.{Outcome}
use Rattle.core_file.specs.CoreFiles.{core_bytes_of, header, memory_segment, note_of, notes_of, notes_segment, spelled}
use Rattle.core_file.proofs.FileParts.{file_is, no_core, put_both}
use Rattle.core_file.proofs.core_bytes.core_file.Goals as goal

abbrev with_lists : List Core → List ℕ → List (List LoadNote) → Outcome
with_lists cores words loads = record { cores = cores; words = words; loads = loads }

pub returns : goal.returns
returns c =
    let cores : List Core = c.as_slice-cores.result.now in
    let words : List ℕ = c.as_slice-words.result.now in
    let loads = c.args.outcome.now.loads in
    let first = c.args.first in
    let all = ap (λ (l : List Core). length l) c.as_slice-cores.ensures in
    let core : Core = slice_index_or cores first no_core in
    let start = c.in_ok-out.out.items in
    let one : List ℕ = header ++ (notes_segment (length cores) ++ memory_segment (length cores) (length words)) in
    let two : List ℕ = one ++ note_of core in
    let three : List ℕ = two ++ notes_of (take first cores) in
    let four : List ℕ = three ++ notes_of (drop (first + 1) cores) in
    let a = c.in_ok-put_headers.ensures in
    let b = put_both start c.put_headers.new.out.items c.put_note.new.out.items one (note_of core) a
    c.in_ok-put_note.ensures in
    let d = put_both start c.put_note.new.out.items c.put_notes.new.out.items two (notes_of (take first cores)) b
    c.in_ok-put_notes.ensures in
    let e = put_both start c.put_notes.new.out.items c.put_notes-2.new.out.items three
    (notes_of (drop (first + 1) cores)) d
    (c.in_ok-put_notes-2.ensures
    ∙ ap (λ (l : List Core). c.put_notes.new.out.items ++ spelled (notes_of l)) (take_rest cores (first + 1))) in
    let f = put_both start c.put_notes-2.new.out.items c.put_words.new.out.items four words e
    c.in_ok-put_words.ensures in
    file_is (with_lists cores words loads) first core c.from_vec.result
    (get_or_default cores first no_core (starting 0 0) (omega (arith, all, c.requires.first)))
    (c.from_vec.ensures ∙ f ∙ ap (λ (l : List ℕ). l ++ spelled (four ++ words)) c.in_ok-out.ensures.items)
    ∙ ap (λ (l : List Core). core_bytes_of first (with_lists l words loads)) c.as_slice-cores.ensures
    ∙ ap (λ (l : List ℕ). core_bytes_of first (with_lists c.args.outcome.now.cores l loads)) c.as_slice-words.ensures
