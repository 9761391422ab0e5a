-- Rule: what a run with store buffers is recorded as: tso_recording_of
-- What the run of an image under a schedule is recorded as, by cores with store buffers.
use Rattle.std.specs.Prelude.{List}
use Rattle.image_mem.specs.Contents.{Contents}
use Rattle.rtr_types.specs.declared.access.Access.{Access}
use Rattle.rtr_types.specs.declared.pairs.Which.TheVariants.{Reduced as ReducedLog}
use Rattle.rtr_types.specs.declared.params.Params.{Params}
use Rattle.schedule_pick.specs.Choices.{Choices, choice_at}
use Rattle.conflict_edge.specs.Least.{IsLeast}
use Rattle.race_log.specs.Sources.{log_edges}
pub use Rattle.tso_bound.specs.Ends.{end_of}
use Rattle.tso_codec.specs.declared.recording.TsoRecording.{TsoRecording}
use Rattle.tso_codec.specs.Validity.{IsTso, plain_of}
use Rattle.tso_recordings.specs.Recordings.{CanRun, tso_recording_at}
use Rattle.tso_state.specs.Runs.{accesses}

-- the recording of the run of an image with these parameters under a schedule
unfoldable pub tso_recording_of : Contents → Params → Choices → TsoRecording
tso_recording_of image params schedule =
    tso_recording_at image params (choice_at schedule) (end_of image params (choice_at schedule))

-- the accesses that the run ordered, in this order
unfoldable pub tso_accesses_of : Contents → Params → Choices → List Access
tso_accesses_of image params schedule =
    accesses image params (choice_at schedule) (end_of image params (choice_at schedule))

-- the recording is valid, and its reduced log is the least set of the ordered accesses
pub record IsHeld (image : Contents) (params : Params) (schedule : Choices) : Type 0 where
  pub valid : IsTso (tso_recording_of image params schedule)
  pub least : IsLeast (tso_accesses_of image params schedule)
      (log_edges ReducedLog (plain_of (tso_recording_of image params schedule)))

abbrev pub HeldLaw : Type 0
HeldLaw = (image : Contents) (params : Params) (schedule : Choices) → CanRun image params → IsHeld image params schedule
