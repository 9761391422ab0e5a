-- How far one has come on a way.
use Rattle.std.specs.Prelude.{◌≡◌, ℕ, List}
use Rattle.rtr_types.specs.declared.cut.Cut.{Cut}
use Rattle.rtr_types.specs.declared.pairs.Which.{Which}
use Rattle.race_log.specs.declared.recording.Recording.{Recording}
use Rattle.replay_core.specs.Answers.{UnderWay}
use Rattle.replay_core.specs.Orders.{Ordered, counts_in}
use Rattle.replay_core.specs.Plans.{Plan, plan_of}
use Rattle.replay_core.specs.Play.{place}
use Rattle.cut_replay.specs.ClosedCuts.{count_in}
use Rattle.cut_replay.specs.Dues.{IsOnTheWay}
use Rattle.cut_moves.specs.Ways.{LeadsTo}

-- the places to come are ready one after the other, and lead to the cut
pub record IsWalking (which : Which) (r : Recording) (to : Cut) (replay : UnderWay) (places : List ℕ) : Type 0 where
  pub way : IsOnTheWay which r to replay
  pub ordered : Ordered (plan_of which r) (counts_in replay.state) places
  pub leads : LeadsTo (counts_in replay.state) (count_in to) places

-- the core's place was taken, and it's still on the way to the cut
pub record HasTaken (which : Which) (r : Recording) (to : Cut) (old : UnderWay) (core : ℕ) (new : UnderWay) : Type 0
  where
    pub way : IsOnTheWay which r to new
    pub state : new.state ≡ place (plan_of which r) old.state core
