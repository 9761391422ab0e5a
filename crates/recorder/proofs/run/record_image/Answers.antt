use Rattle.std.proofs.Common.{refl, ap, sym, subst, ◌∙◌, arith}
use Rattle.image_mem.specs.Contents.{Contents}
use Rattle.race_log.specs.declared.recording.Recording.{Recording}
use Rattle.run_records.proofs.RecordedEnd.{recording_made}
use Rattle.run_records.proofs.Recordings.{least, recording_valid_law, regulated_log_law}
use Rattle.run_records.specs.Recordings.{recording_of}
use Rattle.run_steps.proofs.RunStart.{under_way}
use Rattle.recorder.specs.Promises.{IsRecordingOf}
use Rattle.recorder.proofs.RecordedEnd.{recorded}
use Rattle.recorder.proofs.RecorderStart.{records_start}
use Rattle.recorder.proofs.run.record_image.Goals as goal

pub run_to_end-requires-clause-under_way : goal.run_to_end-requires-clause-under_way
run_to_end-requires-clause-under_way c =
    let clerk = c.in_ok-clerk.ensures in
    under_way _ c.args.image c.args.params c.args.schedule c.requires.fits
    (records_start _ _ _ _ _ c.requires.fits c.in_ok-machine.ensures.start c.in_ok-machine.ensures.plain clerk.reduction
    clerk.untold clerk.cores clerk.follows)

pub totals_of-requires : goal.totals_of-requires
totals_of-requires c =
    let a = c.args in
    let clerk = c.in_ok-clerk.ensures in
    let start = records_start a.image a.params a.schedule _ _ c.requires.fits c.in_ok-machine.ensures.start
    c.in_ok-machine.ensures.plain clerk.reduction clerk.untold clerk.cores clerk.follows in
    sym (c.in_ok-ended.ensures.stands _ _ _ _ start).1.notes.run.cores

pub returns : goal.returns
returns c =
    let a = c.args in
    let clerk = c.in_ok-clerk.ensures in
    let start = records_start a.image a.params a.schedule _ _ c.requires.fits c.in_ok-machine.ensures.start
    c.in_ok-machine.ensures.plain clerk.reduction clerk.untold clerk.cores clerk.follows in
    let ok = c.in_ok-ended.ensures in
    let image_is = ok.image ∙ ap (λ s. s.image) c.in_ok-machine.ensures.start in
    let it = recorded c.args.image c.args.params c.args.schedule _ _ _ _ c.requires.fits ok.done image_is
    (ok.stands _ _ _ _ start).1 in
    let made = recording_made c.args.image c.args.params c.args.schedule c.from_vec.result c.in_ok-totals.totals
    c.finish-logs.result.reduced c.finish-logs.result.regulated
    (c.from_vec.ensures ∙ c.into_bytes.ensures ∙ ap (λ (i : Contents). i.bytes) (c.into_image.ensures ∙ image_is))
    (c.in_ok-totals.ensures ∙ it.totals) (c.finish-logs.ensures.reduced ∙ it.reduced)
    (c.finish-logs.ensures.vectors ∙ it.regulated) in
    let promised : IsRecordingOf a.image a.params a.schedule (recording_of a.image a.params a.schedule) = record {
      recording = refl;
      valid = recording_valid_law a.image a.params a.schedule c.requires.fits c.requires.words
          (omega (arith, c.words-words.ensures.value, c.words-words.ensures.room, c.requires.words));
      regulated = λ known counts. regulated_log_law a.image a.params a.schedule known c.requires.fits counts;
      least = least a.image a.params a.schedule c.requires.fits;
    } in
    subst (λ (r : Recording). IsRecordingOf a.image a.params a.schedule r) (sym made) promised
