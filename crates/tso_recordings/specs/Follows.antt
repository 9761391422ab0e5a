-- Rule: every order follows a run with store buffers: FollowsTsoRun, ReplaysTsoRun
-- The replays of what a run of cores with store buffers is recorded as.
use Rattle.std.specs.Prelude.{◌≡◌, ℕ, ◌⊎◌, List, ◌++◌}
use Rattle.image_mem.specs.Contents.{Contents}
use Rattle.rtr_types.specs.declared.access.Access.{Access}
use Rattle.rtr_types.specs.declared.params.Params.{Params}
use Rattle.rv_core.specs.declared.outcome.LoadNote.{LoadNote}
use Rattle.rv_core.specs.declared.outcome.Outcome.{Outcome}
use Rattle.schedule_pick.specs.Choices.{Choices}
use Rattle.clock_core.specs.Order.{Among, Within}
use Rattle.conflict_edge.specs.Conflicts.{ConflictPair, StandsIn}
use Rattle.conflict_edge.specs.Least.{Suffices}
use Rattle.replay_core.specs.declared.answers.ReplayFault.{ReplayFault}
use Rattle.replay_core.specs.declared.answers.ReplayFault.TheVariants as replaying
use Rattle.replay_core.specs.Orders.{IsReplayOrder, IsWhole, low_order}
use Rattle.replay_core.specs.Play.{ValuedPlays, loads_at, start, valued_accesses, valued_played}
use Rattle.replay_audit.specs.Laws.{GoesOnValued}
use Rattle.tso_codec.specs.declared.recording.TsoRecording.{TsoRecording}
pub use Rattle.tso_outcome.specs.Outcomes.{RunEnds, tso_outcome_of}
use Rattle.tso_recordings.specs.Recordings.{CanRun}
use Rattle.tso_recordings.specs.Schedules.{tso_accesses_of, tso_recording_of}
use Rattle.tso_replay.specs.Replays.{TsoRefuses, TsoReplays, tso_given, tso_plan}

-- the order plays with the logged words by accesses of the run, whose conflicts the log orders as the run did; each
-- core's loads and atomic memory operations are the first ones that it has in the run, each with the word that it got;
-- and the order is whole, and ends where the run does, or it can go on
pub record FollowsTsoRun (image : Contents) (params : Params) (schedule : Choices) (r : TsoRecording) (order : List ℕ)
    : Type 0 where
  pub plays : ValuedPlays (tso_given r) (tso_plan r) (start (tso_plan r)) order
  pub accesses : (a : Access) → StandsIn (valued_accesses (tso_given r) (tso_plan r) order) a
      → StandsIn (tso_accesses_of image params schedule) a
  pub pairs : Within (ConflictPair (valued_accesses (tso_given r) (tso_plan r) order))
      (ConflictPair (tso_accesses_of image params schedule))
  pub suffices : Suffices (valued_accesses (tso_given r) (tso_plan r) order) (Among (tso_plan r).edges)
  pub loads : (c : ℕ) → (later : List LoadNote)
      × (loads_at (tso_outcome_of image params schedule) c
      ≡ loads_at (valued_played (tso_given r) (tso_plan r) order) c ++ later)
  pub further : IsWhole (tso_plan r) order ⊎ GoesOnValued (tso_given r) (tso_plan r) order
  pub ends : IsWhole (tso_plan r) order
      → valued_played (tso_given r) (tso_plan r) order ≡ tso_outcome_of image params schedule

-- every replay order of the recording follows the run. So its low order is whole and comes to the run's outcome, which a
-- replay answers, or is refused for want of memory alone
pub record ReplaysTsoRun (image : Contents) (params : Params) (schedule : Choices) (r : TsoRecording) : Type 0 where
  pub every_order : (order : List ℕ) → IsReplayOrder (tso_plan r) order → FollowsTsoRun image params schedule r order
  pub low_whole : IsWhole (tso_plan r) (low_order (tso_plan r))
  pub low : valued_played (tso_given r) (tso_plan r) (low_order (tso_plan r)) ≡ tso_outcome_of image params schedule
  pub replayed : (answer : Outcome) → TsoReplays r answer → answer ≡ tso_outcome_of image params schedule
  pub not_refused : (fault : ReplayFault) → TsoRefuses r fault → fault ≡ replaying.OutOfMemory

abbrev pub ReplayedLaw : Type 0
ReplayedLaw =
    (image : Contents) (params : Params) (schedule : Choices) → CanRun image params
    → ReplaysTsoRun image params schedule (tso_recording_of image params schedule)
