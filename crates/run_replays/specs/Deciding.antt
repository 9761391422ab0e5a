-- Logs by which a run's order of retirement decides.
use Rattle.std.specs.Prelude.{◌≡◌}
use Rattle.image_mem.specs.Contents.{Contents}
use Rattle.rtr_types.specs.Parameters.{Fits}
use Rattle.rtr_types.specs.declared.pairs.Which.{Which}
use Rattle.rtr_types.specs.declared.pairs.Which.TheVariants.{Reduced}
use Rattle.rtr_types.specs.declared.params.Params.{Params}
use Rattle.schedule_pick.specs.Choices.{Choices}
use Rattle.clock_core.specs.Order.{Among, Before, Within}
use Rattle.race_log.specs.Sources.{log_edges}
use Rattle.race_log.specs.declared.recording.Recording.{Recording}
use Rattle.run_records.specs.Recordings.{recording_of}
use Rattle.replay_core.specs.Plans.{plan_of}
use Rattle.replay_audit.specs.Determinate.{Decides}
use Rattle.run_replays.specs.Orders.{order_of}
use Rattle.run_replays.specs.Plays.{IsOfRun}
use Rattle.run_replays.specs.ReplayOrders.{GoForward}

-- the log's edges go forward in the run, and each edge of the least set is before by them
pub record CoversRun (image : Contents) (params : Params) (schedule : Choices) (which : Which) (r : Recording)
    : Type 0 where
  pub forward : GoForward image params schedule (Among (log_edges which r))
  pub implied : Within (Among (log_edges Reduced (recording_of image params schedule)))
      (Before (Among (log_edges which r)))

-- The order of retirement decides by each such log,
abbrev pub RunDecidesLaw : Type 0
RunDecidesLaw =
    (image : Contents) (params : Params) (schedule : Choices) (r : Recording) (which : Which) → Fits params
    → image.words ≡ params.words → IsOfRun image params schedule r → CoversRun image params schedule which r
    → Decides (plan_of which r) (order_of image params schedule)

-- and so by the reduced log.
abbrev pub ReducedDecidesLaw : Type 0
ReducedDecidesLaw =
    (image : Contents) (params : Params) (schedule : Choices) → Fits params → image.words ≡ params.words
    → Decides (plan_of Reduced (recording_of image params schedule)) (order_of image params schedule)
