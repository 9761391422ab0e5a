-- Rule: every order replays what was told, where the log is least: IsToldRun, LeastReplaysLaw
-- What replays of a recording come to that was made of what a run told.
use Rattle.std.specs.Prelude.{◌≡◌, List, length}
use Rattle.rtr_types.specs.declared.pairs.Which.TheVariants.{Reduced}
use Rattle.conflict_edge.specs.Least.{IsLeast}
use Rattle.race_log.specs.Sources.{log_edges}
use Rattle.rv_core.specs.declared.outcome.Outcome.{Outcome}
use Rattle.replay_core.specs.Orders.{IsWhole}
use Rattle.replay_core.specs.Play.{start, valued_played}
use Rattle.tso_codec.specs.declared.recording.TsoRecording.{TsoRecording}
use Rattle.tso_codec.specs.Validity.{IsTso, plain_of}
use Rattle.tso_replay.specs.Laws.{Inside, ReplaysTold}
use Rattle.tso_replay.specs.Replays.{tso_given, tso_plan}
use Rattle.tso_state.specs.Events.{Told}
use Rattle.tso_told.specs.Played.{ordered_told}
use Rattle.tso_recordings.specs.Tells.{Tells, cores_told}

-- the instructions are told one after the other up to the totals and this outcome, the recorded words are those of the
-- logged loads, and the reduced log is the least set of the ordered accesses
pub record IsToldRun (r : TsoRecording) (list : List Told) (outcome : Outcome) : Type 0 where
  pub inside : Inside (length r.totals) (cores_told list)
  pub whole : IsWhole (tso_plan r) (cores_told list)
  pub tells : Tells (tso_given r) (tso_plan r) (start (tso_plan r)) list
  pub outcome_is : valued_played (tso_given r) (tso_plan r) (cores_told list) ≡ outcome
  pub least : IsLeast (ordered_told list) (log_edges Reduced (plain_of r))

-- Then every replay order replays it.
abbrev pub LeastReplaysLaw : Type 0
LeastReplaysLaw = (r : TsoRecording) (list : List Told) (outcome : Outcome) → IsTso r → IsToldRun r list outcome →
    ReplaysTold r (cores_told list) outcome
