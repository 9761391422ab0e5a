-- The order of retirement as a replay order.
use Rattle.std.specs.Prelude.{◌≡◌}
use Rattle.image_mem.specs.Contents.{Contents}
use Rattle.rtr_types.specs.Parameters.{Fits}
use Rattle.rtr_types.specs.declared.pairs.Which.{Which}
use Rattle.rtr_types.specs.declared.pairs.Which.TheVariants.{Reduced}
use Rattle.rtr_types.specs.declared.params.Params.{Params}
use Rattle.schedule_pick.specs.Choices.{Choices, choice_at}
use Rattle.clock_core.specs.Order.{Among, Relation, Within}
use Rattle.conflict_edge.specs.Conflicts.{ConflictPair}
use Rattle.race_log.specs.Sources.{log_edges}
use Rattle.race_log.specs.declared.recording.Recording.{Recording}
use Rattle.run_records.specs.Recordings.{run_accesses, recording_of}
use Rattle.replay_core.specs.Orders.{IsReplayOrder}
use Rattle.replay_core.specs.Plans.{plan_of}
use Rattle.run_outcome.specs.Retirement.{RetiresBefore}
use Rattle.run_replays.specs.Orders.{order_of}
use Rattle.run_replays.specs.Plays.{IsOfRun}

-- each pair goes forward in the run: whenever its target retires, its source has retired
abbrev pub GoForward : Contents → Params → Choices → Relation → Type 0
GoForward image params schedule E = Within E (RetiresBefore image params (choice_at schedule))

-- The order of retirement is a replay order of each log whose edges go forward.
abbrev pub ForwardLaw : Type 0
ForwardLaw =
    (image : Contents) (params : Params) (schedule : Choices) (r : Recording) (which : Which) → Fits params
    → image.words ≡ params.words → IsOfRun image params schedule r
    → GoForward image params schedule (Among (log_edges which r))
    → IsReplayOrder (plan_of which r) (order_of image params schedule)

-- Conflicts go forward,
abbrev pub ConflictsForwardLaw : Type 0
ConflictsForwardLaw =
    (image : Contents) (params : Params) (schedule : Choices) → Fits params
    → GoForward image params schedule (ConflictPair (run_accesses image params schedule))

-- and so do the edges of the reduced log, which are conflicts.
abbrev pub ReducedForwardLaw : Type 0
ReducedForwardLaw =
    (image : Contents) (params : Params) (schedule : Choices) → Fits params
    → GoForward image params schedule (Among (log_edges Reduced (recording_of image params schedule)))

abbrev pub ReducedOrderLaw : Type 0
ReducedOrderLaw =
    (image : Contents) (params : Params) (schedule : Choices) → Fits params → image.words ≡ params.words
    → IsReplayOrder (plan_of Reduced (recording_of image params schedule)) (order_of image params schedule)
