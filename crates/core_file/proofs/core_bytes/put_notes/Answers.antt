use Rattle.std.proofs.Common.{List, ℕ, ◌++◌, ◌∙◌, ap, sym, take}
use Rattle.std.specs.Prelude.{slice_index_or}
use Rattle.core_file.specs.CoreFiles.{note_of, notes_of, spelled}
use Rattle.core_file.proofs.FileParts.{no_core, notes_more, put_both}
use Rattle.core_file.proofs.core_bytes.put_notes.Goals as goal

pub loop-core-preserved : goal.loop-core-preserved
loop-core-preserved c =
    let cores = c.args.cores.now in
    let k = c.loop-core.core-index in
    let old = c.args.out.now.items in
    put_both old c.loop-core.out.items c.put_note.new.out.items (notes_of (take k cores))
    (note_of (slice_index_or cores k no_core)) c.loop-core.invariant c.in_ok-put_note.ensures
    ∙ ap (λ (l : List ℕ). old ++ spelled l) (sym (notes_more cores k no_core c.loop-core-test.true))
