-- What a recording of a run of cores with store buffers has of its run: laws of every run, at the run of these bytes.
use Rattle.std.proofs.Common.{◌≡◌, ◌∙◌, refl, sym, ap, subst, Bool, ℕ, ◌*◌, ◌<◌, ◌≤◌, List, length, Result, Ok, arith}
use Rattle.std.specs.Prelude.{slice_index}
use Rattle.image_mem.specs.Contents.{Contents}
use Rattle.rtr_types.specs.Parameters.{Fits}
use Rattle.rtr_types.specs.declared.params.Params.{Params}
use Rattle.rv_core.specs.declared.outcome.Outcome.{Outcome}
use Rattle.schedule_pick.specs.Choices.{Choices, choice_at, choices_of}
use Rattle.replay_core.specs.Orders.{low_order}
use Rattle.replay_core.specs.Plans.{recorded_image}
use Rattle.state_text.specs.States.{IsOutcomeOf, state_lines}
use Rattle.state_text.specs.declared.exit.Exit.TheVariants as exits
use Rattle.tool_words.specs.declared.command.RunWords.{RunWords}
use Rattle.tool_words.specs.declared.command.Command.TheVariants.{TsoRecord, TsoReplay, TsoRun}
use Rattle.tso_recordings.specs.Schedules.{tso_recording_of}
use Rattle.tso_recordings.proofs.LoggedLoads.{logged_law}
use Rattle.tso_recordings.proofs.Schedules.{held as run_held, replayed as run_replayed, told_held}
use Rattle.tso_recordings.specs.Schedules.{end_of}
use Rattle.tso_codec.specs.declared.recording.TsoRecording.{TsoRecording}
use Rattle.tso_codec.specs.Reading.{tso_at}
use Rattle.tso_codec.specs.Spelling.{tso_spelling}
use Rattle.tso_codec.specs.Validity.{plain_of}
use Rattle.tso_codec.proofs.RecordingLaws.{spelled_is_read}
use Rattle.tso_recordings.specs.Replays.{IsToldRun}
use Rattle.tso_recordings.specs.Follows.{tso_outcome_of}
use Rattle.tso_recordings.proofs.Schedules.{run_ends_so}
use Rattle.tso_recordings.specs.Recordings.{CanRun}
use Rattle.tso_replay.specs.Replays.{tso_given, tso_plan}
use Rattle.replay_audit.proofs.PlaySizes.{valued_fits}
use Rattle.tso_state.specs.Runs.{all_told}
use Rattle.tso_recordings.proofs.Valid.{opens_small}
use Rattle.rtr_cli.specs.Inputs.{SpellsSome, image_of}
use Rattle.rtr_cli.specs.Buffers.{tso_outcome, tso_replay_lines}
use Rattle.rtr_cli.specs.Commands.{Makes}
use Rattle.rtr_cli.specs.Promises.{KeepsTsoRun, Promised}
use Rattle.rtr_cli.specs.Completeness.{Accepts, IsOfBuffers}
use Rattle.rtr_cli.proofs.AcceptedLemmas.{accepted_is_not_refused}

-- bytes that fit the memory can be run
can_run : (params : Params) (bytes : List ℕ) → Fits params → length bytes ≤ 4 * params.words
    → ((i : ℕ) → slice_index bytes i < 256) → CanRun (image_of params bytes) params
can_run params bytes fits room small =
    record { fits = fits; memory = refl; room = room; words = opens_small (image_of params bytes) small }

module _ (params : Params) (bytes : List ℕ) (schedule : Choices) (can : CanRun (image_of params bytes) params) where
  image : Contents
  image = image_of params bytes

  recording : TsoRecording
  recording = tso_recording_of (image_of params bytes) params schedule

  -- the recording's image is the run's
  image_same : recorded_image (plain_of (tso_recording_of (image_of params bytes) params schedule))
      ≡ image_of params bytes
  unfolding tso_recording_of
  image_same = refl

  end : ℕ
  end = end_of (image_of params bytes) params (choice_at schedule)

  -- and it is one of a run
  told : IsToldRun (tso_recording_of (image_of params bytes) params schedule)
      (all_told (image_of params bytes) params (choice_at schedule)
      (end_of (image_of params bytes) params (choice_at schedule)))
      (tso_outcome_of (image_of params bytes) params schedule)
  told = told_held (image_of params bytes) params schedule can

  pub of_run : IsOfBuffers (tso_recording_of (image_of params bytes) params schedule)
  of_run = record {
    valid = (run_held (image_of params bytes) params schedule can).valid;
    list = all_told (image_of params bytes) params (choice_at schedule)
        (end_of (image_of params bytes) params (choice_at schedule));
    outcome = tso_outcome_of (image_of params bytes) params schedule;
    told = told;
  }

  pub read_back : tso_at (tso_spelling (tso_recording_of (image_of params bytes) params schedule))
      ≡ Ok (tso_recording_of (image_of params bytes) params schedule)
  read_back = spelled_is_read (tso_recording_of (image_of params bytes) params schedule)
      (run_held (image_of params bytes) params schedule can).valid

  -- so its spelling is accepted
  pub accepted : SpellsSome (tso_at (tso_spelling (tso_recording_of (image_of params bytes) params schedule)))
      IsOfBuffers
  accepted = subst (λ (read : Result TsoRecording ℕ). SpellsSome read IsOfBuffers) (sym read_back) of_run

  -- a replay leaves what the run leaves
  low : tso_outcome (tso_recording_of (image_of params bytes) params schedule)
      ≡ tso_outcome_of (image_of params bytes) params schedule
  low = (run_replayed (image_of params bytes) params schedule can).low

  -- which is an outcome over the image
  pub run_fits : IsOutcomeOf (image_of params bytes) (tso_outcome_of (image_of params bytes) params schedule)
  run_fits =
      let r = tso_recording_of (image_of params bytes) params schedule in
      let fits = valued_fits (tso_given r) (tso_plan r) (low_order (tso_plan r)) in
      let left : IsOutcomeOf (recorded_image (plain_of r)) (tso_outcome r) =
      record {
        memory = (run_held (image_of params bytes) params schedule can).valid.plain.params.words;
        words = fits.words;
        loads = fits.lists ∙ sym fits.cores;
        within = fits.within;
      } in
      subst (λ (i : Contents). IsOutcomeOf i (tso_outcome_of (image_of params bytes) params schedule)) image_same
      (subst (λ (o : Outcome). IsOutcomeOf (recorded_image (plain_of r)) o) low left)

  -- and its text is the run's
  pub same_text : (loads : Bool) → tso_replay_lines loads (tso_recording_of (image_of params bytes) params schedule)
      ≡ state_lines (tso_outcome_of (image_of params bytes) params schedule) (image_of params bytes) loads
  same_text loads =
      let r = tso_recording_of (image_of params bytes) params schedule in
      ap (λ (o : Outcome). state_lines o (recorded_image (plain_of r)) loads) low
      ∙ ap (λ (i : Contents). state_lines (tso_outcome_of (image_of params bytes) params schedule) i loads) image_same

-- what is said of the recording that was read
of_read : (bytes : List ℕ) (r : TsoRecording) (P : TsoRecording → Type 0) → tso_at bytes ≡ Ok r
    → SpellsSome (tso_at bytes) P → P r
of_read bytes r P is h = subst (λ (read : Result TsoRecording ℕ). SpellsSome read P) is h

pub keeps_tso_run : (params : Params) (choices : List ℕ) (seed : ℕ) (bytes : List ℕ) → CanRun (image_of params bytes)
    params
    → KeepsTsoRun params choices seed bytes
keeps_tso_run params choices seed bytes can =
    let schedule : Choices = choices_of choices seed in
    let r : TsoRecording = tso_recording_of (image_of params bytes) params schedule in
    let read : tso_at (tso_spelling r) ≡ Ok r = read_back params bytes schedule can in
    record {
      ended = run_ends_so (image_of params bytes) params schedule can.fits;
      held = run_held (image_of params bytes) params schedule can;
      logged = logged_law (image_of params bytes) params schedule can.fits;
      read_back = read;
      replays = run_replayed (image_of params bytes) params schedule can;
      prints = λ loads out. (
        (λ replayed.
            of_read (tso_spelling r) r (λ q. out ≡ tso_replay_lines loads q) read replayed
            ∙ same_text params bytes schedule can loads),
        (λ ran.
            subst (λ (found : Result TsoRecording ℕ). SpellsSome found (λ q. out ≡ tso_replay_lines loads q)) (sym read)
            (ran ∙ sym (same_text params bytes schedule can loads))),
      );
      refuses = λ loads exit it.
          accepted_is_not_refused (TsoReplay loads) (tso_spelling r) exit (accepted params bytes schedule can) it;
    }

-- the promise of `tsorecord`
pub tso_record_promised : (run : RunWords) (input : List ℕ) → Fits run.params → length input ≤ 4 * run.params.words
    → ((i : ℕ) → slice_index input i < 256) → Promised (TsoRecord run) input
tso_record_promised run input fits room small =
    keeps_tso_run run.params run.choices run.seed input (can_run run.params input fits room small)

-- and that of `tsorun`
pub tso_run_promised : (run : RunWords) (loads : Bool) (input : List ℕ) → Fits run.params →
    Promised (TsoRun run loads) input
tso_run_promised run loads input fits =
    run_ends_so (image_of run.params input) run.params (choices_of run.choices run.seed) fits

-- what `tsorun` prints is text of an outcome over the image
pub tso_run_fits : (params : Params) (schedule : Choices) (bytes : List ℕ) → Fits params → length bytes ≤ 4 *
    params.words
    → ((i : ℕ) → slice_index bytes i < 256)
    → IsOutcomeOf (image_of params bytes) (tso_outcome_of (image_of params bytes) params schedule)
tso_run_fits params schedule bytes fits room small = run_fits params bytes schedule
    (can_run params bytes fits room small)

-- what `tsorecord` writes is accepted by `tsoreplay`
pub buffered_is_accepted : (run : RunWords) (input out : List ℕ) → Fits run.params → length input ≤ 4 * run.params.words
    → ((i : ℕ) → slice_index input i < 256) → Makes (TsoRecord run) input out → (loads : Bool)
    → Accepts (TsoReplay loads) out
buffered_is_accepted run input out fits room small made loads =
    subst (λ (o : List ℕ). Accepts (TsoReplay loads) o) (sym made)
    (accepted run.params input (choices_of run.choices run.seed) (can_run run.params input fits room small))
