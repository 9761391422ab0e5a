use Rattle.std.proofs.Common.{◌≡◌, ◌∙◌, ℕ, List, [], length, ap}
use Rattle.std.proofs.lemmas.List.{length-replicate}
use Rattle.std.proofs.lemmas.List.FromFn.{length-map-range_with_len}
use Rattle.image_mem.specs.Contents.{Contents}
use Rattle.rv_core.specs.States.{starting}
use Rattle.rv_core.specs.declared.core_state.Core.{Core}
use Rattle.rv_core.specs.declared.outcome.LoadNote.{LoadNote}
use Rattle.replay_core.specs.Plans.{recorded_image}
use Rattle.replay_core.proofs.replay.Replay.new.Goals as goal

pub invariant_of-result : goal.invariant_of-result
invariant_of-result c =
    let r = c.args.recording.now in
    let contents = λ (bytes : List ℕ). let x : Contents = record { bytes = bytes; words = r.params.words } in x in
    let image_is : c.in-Ok.image ≡ recorded_image r =
    c.in-Ok.ensures.image ∙ ap contents (c.in_ok-bytes.ensures.items ∙ c.as_slice.ensures) in
    let program_is : c.in_ok-program.program ≡ recorded_image r = c.in_ok-program.ensures ∙ image_is in
    record {
      valid = c.requires;
      image_is = program_is;
      all_cores = ap (λ (cores : List Core). length cores) c.in_ok-cores.ensures
          ∙ length-map-range_with_len (λ i. starting i r.params.limit) 0 r.params.cores;
      all_words = c.in_ok-memory.ensures.length ∙ ap (λ (i : Contents). i.words) image_is;
      all_loads = ap (λ (lists : List (List LoadNote)). length lists) c.in_ok-loads.ensures
          ∙ length-replicate r.params.cores [];
    }
