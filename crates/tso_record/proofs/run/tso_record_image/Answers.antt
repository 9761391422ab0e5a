-- The run's clerk ends with the log and the values of what it was told, and the laws of recordings say that these are
-- the run's.
use Rattle.std.proofs.Common.{◌<◌, ◌*◌, ◌≤◌, ℕ, List, refl, ap, sym, subst, ◌∙◌, arith, length}
use Rattle.std.proofs.lemmas.List.{length-map}
use Rattle.std.proofs.lemmas.Simd.{map-map}
use Rattle.std.specs.Prelude.{slice_index}
use Rattle.image_mem.specs.Contents.{Contents}
use Rattle.run_steps.proofs.RunStart.{under_way}
use Rattle.rv_core.specs.declared.core_state.Core.{Core}
use Rattle.tso_recordings.proofs.LoggedLoads.{logged_law}
use Rattle.tso_recordings.proofs.Schedules.{held, lists_held, replayed}
use Rattle.tso_recordings.specs.Follows.{ReplaysTsoRun}
use Rattle.tso_recordings.specs.Schedules.{tso_recording_of}
use Rattle.tso_codec.specs.declared.recording.TsoRecording.{TsoRecording}
use Rattle.tso_outcome.proofs.RunPlaces.{run_ends_so}
use Rattle.tso_recordings.specs.Recordings.{CanRun}
use Rattle.tso_state.specs.States.{BufferedCore}
use Rattle.tso_recordings.proofs.Valid.{opens_small}
use Rattle.tso_record.specs.Promises.{IsTsoRecordingOf}
use Rattle.tso_record.proofs.RecordedPlaces.{lists_are, recording_made, records_same, records_start}
use Rattle.tso_record.proofs.RecordedPlaces.{totals_are, values_are}
use Rattle.tso_record.proofs.run.tso_record_image.Goals as goal

pub run_to_end-requires-clause-under_way : goal.run_to_end-requires-clause-under_way
run_to_end-requires-clause-under_way c =
    let clerk = c.in_ok-clerk.ensures in
    let rooms = c.make_rooms.ensures in
    under_way _ c.args.image c.args.params c.args.schedule c.requires.fits
    (records_same _ _ _ 0 _ _ c.in_ok-clerk.clerk _ _ rooms.state rooms.reduction rooms.values
    (records_start _ _ _ _ _ c.in_ok-machine.ensures.start clerk.reduction clerk.values))

pub run_to_end-requires-clause-ready : goal.run_to_end-requires-clause-ready
run_to_end-requires-clause-ready c =
    let ok = c.in_ok-make_rooms.ensures in
    (ok.heads, ok.ready, ok.roomy)

pub totals_of-requires : goal.totals_of-requires
totals_of-requires c =
    let clerk = c.in_ok-clerk.ensures in
    let rooms = c.make_rooms.ensures in
    let a = c.args in
    let start = records_same a.image a.params a.schedule 0 _ _ c.in_ok-clerk.clerk c.make_rooms.new.clerk _ rooms.state
    rooms.reduction rooms.values
    (records_start _ _ _ _ _ c.in_ok-machine.ensures.start clerk.reduction clerk.values) in
    sym (c.in_ok-ended.ensures.stands _ _ _ _ start).1.runs.cores
    ∙ sym (length-map c.in_ok-ended.ended.machine.state.cores (λ (t : BufferedCore). t.core))

pub returns : goal.returns
returns c =
    let image = c.args.image in
    let params = c.args.params in
    let schedule = c.args.schedule in
    let clerk = c.in_ok-clerk.ensures in
    let rooms = c.make_rooms.ensures in
    let start = records_same image params schedule 0 _ _ c.in_ok-clerk.clerk c.make_rooms.new.clerk _ rooms.state
    rooms.reduction rooms.values
    (records_start _ _ _ _ _ c.in_ok-machine.ensures.start clerk.reduction clerk.values) in
    let ok = c.in_ok-ended.ensures in
    let image_is = ok.image ∙ ap (λ s. s.image) (rooms.state ∙ c.in_ok-machine.ensures.start) in
    let ended = (ok.stands _ _ _ _ start).1 in
    let room : length image.bytes ≤ 4 * params.words =
    omega (arith, c.words-words.ensures.value, c.words-words.ensures.room, c.requires.words) in
    let small : (i : ℕ) → slice_index image.bytes i < 256 =
    subst (λ (bytes : List ℕ). (i : ℕ) → slice_index bytes i < 256) c.bytes.ensures.value c.are_bytes.ensures in
    let can : CanRun image params = record {
      fits = c.requires.fits;
      memory = c.requires.words;
      room = room;
      words = opens_small image small;
    } in
    let it = held image params schedule can in
    let cores = c.in_ok-ended.ended.machine.state.cores in
    let made = recording_made image params schedule c.from_vec.result c.in_ok-totals.totals
    c.finish-logs.result.reduced c.finish-logs.result.values
    (c.from_vec.ensures ∙ c.into_bytes.ensures ∙ ap (λ (i : Contents). i.bytes) (c.into_image.ensures ∙ image_is))
    (c.in_ok-totals.ensures ∙ map-map (λ (k : Core). k.count) (λ (t : BufferedCore). t.core) cores
    ∙ totals_are _ _ _ _ _ _ _ c.requires.fits ok.done ended)
    (c.finish-logs.ensures.reduced ∙ lists_are _ _ _ _ _ _ _ c.requires.fits ok.done ended
    ∙ lists_held image params schedule can)
    (c.finish-logs.ensures.values ∙ values_are _ _ _ _ _ _ _ c.requires.fits ok.done ended) in
    let promised : IsTsoRecordingOf image params schedule (tso_recording_of image params schedule) = record {
      recording = refl;
      ended = run_ends_so image params schedule c.requires.fits;
      valid = it.valid;
      least = it.least;
      logged = logged_law image params schedule c.requires.fits;
    } in
    record {
      recorded = subst (λ (r : TsoRecording). IsTsoRecordingOf image params schedule r) (sym made) promised;
      replayed = subst (λ (r : TsoRecording). ReplaysTsoRun image params schedule r) (sym made)
          (replayed image params schedule can);
    }
