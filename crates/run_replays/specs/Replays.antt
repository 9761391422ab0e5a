-- Rule: every order follows the run: ReplaysRun
-- The replays of what a run records.
use Rattle.std.specs.Prelude.{◌≡◌, ℕ, ◌*◌, ◌≤◌, ◌⊎◌, ◌↔◌, List, ◌++◌, length}
use Rattle.image_mem.specs.Contents.{Contents}
use Rattle.rtr_types.specs.Parameters.{Fits}
use Rattle.rtr_types.specs.declared.access.Access.{Access}
use Rattle.rtr_types.specs.declared.pairs.Which.{Which}
use Rattle.rtr_types.specs.declared.pairs.Which.TheVariants.{Reduced}
use Rattle.rtr_types.specs.declared.params.Params.{Params}
use Rattle.rv_core.specs.declared.outcome.LoadNote.{LoadNote}
use Rattle.rv_core.specs.declared.outcome.Outcome.{Outcome}
use Rattle.schedule_pick.specs.Choices.{Choices}
use Rattle.conflict_edge.specs.Conflicts.{StandsIn}
use Rattle.race_log.specs.Validity.{Valid}
use Rattle.race_log.specs.declared.recording.Recording.{Recording}
use Rattle.run_outcome.specs.Outcomes.{outcome_of}
use Rattle.run_records.specs.Recordings.{run_accesses, recording_of}
use Rattle.replay_core.specs.Answers.{Refuses, Replays}
use Rattle.replay_core.specs.declared.answers.ReplayFault.{ReplayFault}
use Rattle.replay_core.specs.declared.answers.ReplayFault.TheVariants as replaying
use Rattle.replay_core.specs.Orders.{IsReplayOrder, IsWhole}
use Rattle.replay_core.specs.Plans.{Plan, recorded_image, plan_of}
use Rattle.replay_core.specs.Play.{Plays, loads_at, played, start}
use Rattle.replay_core.specs.Play as replays
use Rattle.replay_audit.specs.Audits.{AuditRefuses, Findings, IsAuditOf}
use Rattle.replay_audit.specs.Determinate.{Decides, IsDeterminate, low_outcome}
use Rattle.replay_audit.specs.Laws.{GoesOn}
use Rattle.replay_audit.specs.declared.audit_fault.AuditFault.{AuditFault}
use Rattle.replay_audit.specs.declared.audit_fault.AuditFault.TheVariants as auditing
use Rattle.run_replays.specs.Orders.{order_of}
use Rattle.run_replays.specs.Plays.{IsOfRun}

-- the order plays by accesses of the run, and each core's loads are the first ones that it has in the run; the order is
-- whole, and ends where the run does, or it can go on
pub record FollowsRun (image : Contents) (params : Params) (schedule : Choices) (p : Plan) (order : List ℕ)
    : Type 0 where
  pub plays : Plays p (start p) order
  pub accesses : (a : Access)
      → StandsIn (replays.accesses_of p order) a → StandsIn (run_accesses image params schedule) a
  pub loads : (c : ℕ)
      → (later : List LoadNote) × (loads_at (outcome_of image params schedule) c ≡ loads_at (played p order) c ++ later)
  pub further : IsWhole p order ⊎ GoesOn p order
  pub ends : IsWhole p order → played p order ≡ outcome_of image params schedule

-- what is answered of a recording that is replayed or audited by one of its logs: the run's outcome, by the run's
-- accesses, or that memory ran out
pub record AnswersRun (image : Contents) (params : Params) (schedule : Choices) (which : Which) (r : Recording)
    : Type 0 where
  pub replayed : (outcome : Outcome) → Replays (plan_of which r) outcome → outcome ≡ outcome_of image params schedule
  pub not_replayed : (fault : ReplayFault) → Refuses (plan_of which r) fault → fault ≡ replaying.OutOfMemory
  pub audited : (a : Findings) → IsAuditOf which r a → a.outcome ≡ outcome_of image params schedule
  pub touched : (a : Findings) → IsAuditOf which r a → (b : Access)
      → StandsIn a.accesses b ↔ StandsIn (run_accesses image params schedule) b
  pub not_audited : (fault : AuditFault) → AuditRefuses which r fault → fault ≡ auditing.OutOfMemory

-- every replay order of the log follows the run. So the recording is determinate by it, and the low order, which is
-- played over the run's image, comes to the run's outcome
pub record ReplaysRun (image : Contents) (params : Params) (schedule : Choices) (which : Which) (r : Recording)
    : Type 0 where
  pub every_order : (order : List ℕ) → IsReplayOrder (plan_of which r) order
      → FollowsRun image params schedule (plan_of which r) order
  pub determinate : IsDeterminate which r
  pub low : low_outcome which r ≡ outcome_of image params schedule
  pub image_is : recorded_image r ≡ image
  pub answers : AnswersRun image params schedule which r

abbrev pub RunReplaysLaw : Type 0
RunReplaysLaw =
    (image : Contents) (params : Params) (schedule : Choices) (r : Recording) (which : Which) → Fits params
    → image.words ≡ params.words → Valid r → IsOfRun image params schedule r
    → Decides (plan_of which r) (order_of image params schedule) → ReplaysRun image params schedule which r

abbrev pub ReducedReplaysLaw : Type 0
ReducedReplaysLaw =
    (image : Contents) (params : Params) (schedule : Choices) → Fits params → image.words ≡ params.words
    → length image.bytes ≤ 4 * params.words
    → ReplaysRun image params schedule Reduced (recording_of image params schedule)
