-- Rule: a run is a play: PlaysRun
-- A run as a play of its recording.
use Rattle.std.specs.Prelude.{◌≡◌, ℕ, List, map}
use Rattle.image_mem.specs.Contents.{Contents}
use Rattle.rtr_types.specs.Parameters.{Fits}
use Rattle.rtr_types.specs.declared.pairs.Which.{Which}
use Rattle.rtr_types.specs.declared.params.Params.{Params}
use Rattle.schedule_pick.specs.Choices.{Choices}
use Rattle.race_log.specs.declared.recording.Recording.{Recording}
use Rattle.run_outcome.specs.Outcomes.{outcome_of}
use Rattle.run_records.specs.Recordings.{run_accesses, recording_of}
use Rattle.replay_core.specs.Orders.{IsWhole}
use Rattle.replay_core.specs.Plans.{Plan, plan_of}
use Rattle.replay_core.specs.Play.{Plays, played, start}
use Rattle.replay_core.specs.Play as replays
use Rattle.run_replays.specs.Orders.{order_of}

-- the recording has the run's parameters, image and totals; its logs may be any at all
pub record IsOfRun (image : Contents) (params : Params) (schedule : Choices) (r : Recording) : Type 0 where
  pub params_are : r.params ≡ params
  pub image_is : r.image ≡ image.bytes
  pub totals_are : r.totals ≡ map (λ k. k.count) (outcome_of image params schedule).cores

-- playing the order comes to what the run comes to, by the run's accesses; it is whole and falls short nowhere
pub record PlaysRun (image : Contents) (params : Params) (schedule : Choices) (p : Plan) (order : List ℕ) : Type 0 where
  pub whole : IsWhole p order
  pub plays : Plays p (start p) order
  pub outcome : played p order ≡ outcome_of image params schedule
  pub accesses : replays.accesses_of p order ≡ run_accesses image params schedule

abbrev pub RunIsPlayLaw : Type 0
RunIsPlayLaw =
    (image : Contents) (params : Params) (schedule : Choices) (r : Recording) (which : Which) → Fits params
    → image.words ≡ params.words → IsOfRun image params schedule r
    → PlaysRun image params schedule (plan_of which r) (order_of image params schedule)

abbrev pub OfRunLaw : Type 0
OfRunLaw =
    (image : Contents) (params : Params) (schedule : Choices)
    → IsOfRun image params schedule (recording_of image params schedule)
