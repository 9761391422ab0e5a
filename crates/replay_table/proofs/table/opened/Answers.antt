-- The image is the recording's, and so are the program and the memory that it opens.
use Rattle.std.proofs.Common.{◌≡◌, ◌∙◌, List, ℕ, ap, subst}
use Rattle.image_mem.specs.Contents.{opening_words}
use Rattle.race_log.specs.declared.recording.Recording.{Recording}
use Rattle.replay_core.specs.Plans.{recorded_image}
use Rattle.replay_table.specs.Seats.{Opening}
use Rattle.replay_table.proofs.table.opened.Goals as goal

pub returns-clause-program : goal.returns-clause-program
returns-clause-program c =
    let r : Recording = c.args.recording.now in
    let bytes : c.in_ok-bytes.bytes.items ≡ r.image = c.in_ok-bytes.ensures.items ∙ c.as_slice.ensures in
    let image : c.in-Ok.image ≡ recorded_image r = c.in-Ok.ensures.image
    ∙ ap (λ (b : List ℕ). record { bytes = b; words = r.params.words }) bytes in
    c.in_ok-program.ensures ∙ image

pub returns-clause-words : goal.returns-clause-words
returns-clause-words c =
    let r : Recording = c.args.recording.now in
    let bytes : c.in_ok-bytes.bytes.items ≡ r.image = c.in_ok-bytes.ensures.items ∙ c.as_slice.ensures in
    let image : c.in-Ok.image ≡ recorded_image r = c.in-Ok.ensures.image
    ∙ ap (λ (b : List ℕ). record { bytes = b; words = r.params.words }) bytes in
    let memory : c.in_ok-memory.memory ≡ opening_words (recorded_image r) = c.in_ok-memory.ensures.words
    ∙ ap opening_words image in
    subst (λ (m : List ℕ). Opening m r.params.cores c.in_ok-words.words.items) memory c.in_ok-words.ensures
