-- What the recording of a run of cores with store buffers is, and what replays of it come to, under choices.
use Rattle.std.specs.Prelude.{◌≡◌, ℕ, true, List}
use Rattle.image_mem.specs.Contents.{Contents}
use Rattle.rtr_types.specs.declared.pairs.Which.TheVariants.{Reduced as ReducedLog}
use Rattle.rtr_types.specs.declared.params.Params.{Params}
use Rattle.conflict_edge.specs.Least.{IsLeast}
use Rattle.race_log.specs.Sources.{log_edges}
use Rattle.race_log.specs.Validity.{Valid}
use Rattle.tso_codec.specs.Validity.{IsTso, plain_of}
use Rattle.tso_records.specs.Standings.{standing_at}
use Rattle.tso_recordings.specs.Replays.{IsToldRun}
use Rattle.tso_recordings.specs.Tells.{cores_told}
use Rattle.tso_replay.specs.Laws.{ReplaysTold}
use Rattle.tso_state.specs.Runs.{accesses, all_told, outcome_at, run}
use Rattle.tso_state.specs.States.{all_done}
use Rattle.tso_recordings.specs.Recordings.{CanRun, tso_recording_at}

-- the cores of the instructions, in the order in which they were told
abbrev pub told_order : Contents → Params → (choices : ℕ → ℕ) → (t : ℕ) → List ℕ
told_order image params choices t = cores_told (all_told image params choices t)

-- the recording is valid, its log is the least set of the ordered accesses, and a reduction that was told of them
-- has it
pub record IsRecorded (image : Contents) (params : Params) (choices : ℕ → ℕ) (t : ℕ) : Type 0 where
  pub plain : Valid (plain_of (tso_recording_at image params choices t))
  pub least : IsLeast (accesses image params choices t)
      (log_edges ReducedLog (plain_of (tso_recording_at image params choices t)))
  pub lists : (standing_at image params choices t).reduction.lists ≡ (tso_recording_at image params choices t).reduced

abbrev pub RecordedLaw : Type 0
RecordedLaw =
    (image : Contents) (params : Params) (choices : ℕ → ℕ) (t : ℕ) → CanRun image params
    → all_done (run image params choices t) ≡ true → IsRecorded image params choices t

abbrev pub ValidLaw : Type 0
ValidLaw =
    (image : Contents) (params : Params) (choices : ℕ → ℕ) (t : ℕ) → CanRun image params
    → all_done (run image params choices t) ≡ true → IsTso (tso_recording_at image params choices t)

-- What the run told plays with the recorded words and to the run's outcome, and the log is the least set of its
-- accesses.
abbrev pub RunToldLaw : Type 0
RunToldLaw =
    (image : Contents) (params : Params) (choices : ℕ → ℕ) (t : ℕ) → CanRun image params
    → all_done (run image params choices t) ≡ true
    → IsToldRun (tso_recording_at image params choices t) (all_told image params choices t)
    (outcome_at image params choices t)

-- what the recording of a run that has ended is
pub record RecordingLaws : Type 0 where
  pub recorded : RecordedLaw
  pub valid : ValidLaw
  pub told : RunToldLaw

-- Every replay order of the recording replays the run: it gives each core the first of the run's loads, it goes on
-- until it is whole, and a whole one ends in the run's outcome.
abbrev pub RunReplaysLaw : Type 0
RunReplaysLaw =
    (image : Contents) (params : Params) (choices : ℕ → ℕ) (t : ℕ) → CanRun image params
    → all_done (run image params choices t) ≡ true
    → ReplaysTold (tso_recording_at image params choices t) (told_order image params choices t)
    (outcome_at image params choices t)
