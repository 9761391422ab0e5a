use Rattle.std.proofs.Common.{◌≡◌, ◌∙◌, ◌<◌, List, ℕ, ap}
use Rattle.std.specs.Prelude.{slice_index_or}
use Rattle.race_log.specs.declared.recording.Recording.{Recording}
use Rattle.race_queries.specs.Queries.{IsAudited}
use Rattle.cut_index.specs.Alone.{alone_first}
use Rattle.cut_index.proofs.Indexed.{AreParts, can_run_parts, loads_own}
use Rattle.cut_index.proofs.index.run_of.Goals as goal

audited : (c : goal.After-loads_of) → IsAudited c.args.audited.now
audited c = record { valid = c.recording-recording.ensures.valid; passed = c.outcome.ensures.passed }

parts : (c : goal.After-loads_of) → AreParts c.args.audited.now c.args.core c.args.program.now
    c.loads_of.result.now c.first-first.result (slice_index_or c.as_slice.result.now c.args.core 0)
parts c =
    let a = c.args.audited.now in
    let recording = c.recording-recording.ensures.recording in
    record {
      image_is = c.requires.program;
      loads_is = loads_own a c.args.core c.loads_of.result.now c.outcome.result.now (audited c)
          c.outcome.ensures.outcome c.loads_of.ensures;
      first_is = c.first-first.ensures
          ∙ ap (λ (r : Recording). alone_first c.args.core r.params.limit) recording;
      total_is = ap (λ (l : List ℕ). slice_index_or l c.args.core 0)
          (c.as_slice.ensures ∙ ap (λ (r : Recording). r.totals) recording);
    }

pub of-requires : goal.of-requires
of-requires c =
    can_run_parts c.args.audited.now (audited c) c.args.core c.requires.core c.args.program.now c.loads_of.result.now
    c.first-first.result (slice_index_or c.as_slice.result.now c.args.core 0) (parts c)
