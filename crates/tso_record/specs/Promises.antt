-- Rule: what is promised of a recording of cores with store buffers: IsTsoRecordingOf
-- What is promised of the recording that a run of cores with store buffers leaves.
use Rattle.std.specs.Prelude.{◌≡◌}
use Rattle.conflict_edge.specs.Least.{IsLeast}
use Rattle.image_mem.specs.Contents.{Contents}
use Rattle.race_log.specs.Sources.{log_edges}
use Rattle.rtr_types.specs.declared.pairs.Which.TheVariants.{Reduced}
use Rattle.rtr_types.specs.declared.params.Params.{Params}
use Rattle.schedule_pick.specs.Choices.{Choices}
use Rattle.tso_codec.specs.Validity.{IsTso, plain_of}
use Rattle.tso_codec.specs.declared.recording.TsoRecording.{TsoRecording}
use Rattle.tso_outcome.specs.Outcomes.{RunEnds}
use Rattle.tso_recordings.specs.Logged.{AreLogged}
use Rattle.tso_recordings.specs.Schedules.{tso_accesses_of, tso_recording_of}

-- it is that of the run, whole to its end, and valid; its reduced log is the least set of the accesses that the run
-- ordered; and its values are the words of the loads that the run logged
pub record IsTsoRecordingOf (image : Contents) (params : Params) (schedule : Choices) (r : TsoRecording) : Type 0 where
  pub recording : r ≡ tso_recording_of image params schedule
  pub ended : RunEnds image params schedule
  pub valid : IsTso r
  pub least : IsLeast (tso_accesses_of image params schedule) (log_edges Reduced (plain_of r))
  pub logged : AreLogged image params schedule r.values
