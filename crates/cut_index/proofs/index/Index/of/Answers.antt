use Rattle.std.proofs.Common.{◌<◌, subst, sym}
use Rattle.std.specs.Prelude.{slice_index_or}
use Rattle.race_log.specs.declared.recording.Recording.{Recording}
use Rattle.cut_index.proofs.Indexed.{accesses_within}
use Rattle.cut_index.proofs.index.Index.of.Goals as goal

pub writes_of-requires : goal.writes_of-requires
writes_of-requires c number d lt =
    let a = c.args.audited.now in
    subst (λ (r : Recording). (slice_index_or c.accesses.result.now number d).word < r.params.words)
    (sym c.recording-2.ensures.recording)
    (accesses_within a (record { valid = c.recording-2.ensures.valid; passed = c.accesses.ensures.passed })
    c.accesses.result.now c.accesses.ensures.accesses number d lt)
