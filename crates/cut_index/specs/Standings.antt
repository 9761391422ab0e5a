-- Rule: the state at a closed cut, as a function of it: reached
-- What a replay shows that has come to a closed cut.
use Rattle.std.specs.Prelude.{true}
use Rattle.rtr_types.specs.declared.cut.Cut.{Cut}
use Rattle.rtr_types.specs.declared.pairs.Which.{Which}
use Rattle.rv_core.specs.declared.outcome.Outcome.{Outcome}
use Rattle.race_log.specs.declared.recording.Recording.{Recording}
use Rattle.replay_core.specs.Answers.{UnderWay}
use Rattle.replay_core.specs.Orders.{nought}
use Rattle.replay_core.specs.Plans.{plan_of}
use Rattle.replay_core.specs.Play.{played}
use Rattle.replay_audit.specs.Determinate.{low_order_of}
use Rattle.cut_replay.specs.ClosedCuts.{count_in}
use Rattle.cut_moves.specs.Ways.{way_of}

-- the state at a cut: what the low order without what the cut lacks plays to
abbrev pub reached : Which → Recording → Cut → Outcome
reached which r cut = played (plan_of which r) (way_of nought (count_in cut) (low_order_of which r))

-- and that as a replay under way, which has room
abbrev pub standing_at : Which → Recording → Cut → UnderWay
standing_at which r cut = record { plan = plan_of which r; state = reached which r cut; roomy = true }
