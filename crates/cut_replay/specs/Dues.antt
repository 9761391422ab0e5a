-- How far a replay has come on the way to a cut, and which core goes on.
use Rattle.std.specs.Prelude.{◌≡◌, ◌≢◌, ℕ, ◌<◌, ◌≤◌, true, List, length, slice_index}
use Rattle.rtr_types.specs.declared.cut.Cut.{Cut}
use Rattle.rtr_types.specs.declared.pairs.Which.{Which}
use Rattle.race_log.specs.declared.recording.Recording.{Recording}
use Rattle.race_log.specs.Validity.{Valid}
use Rattle.replay_core.specs.Plans.{plan_of}
use Rattle.replay_core.specs.Play.{played}
use Rattle.replay_core.specs.Orders.{counts, counts_in, nought, IsReplayOrder, is_ready}
use Rattle.replay_core.specs.Answers.{UnderWay}
use Rattle.cut_replay.specs.ClosedCuts.{count_in, IsClosed}

-- a replay order within the cut was played
pub record IsOnTheWay (which : Which) (r : Recording) (cut : Cut) (replay : UnderWay) : Type 0 where
  pub valid : Valid r
  pub closed : IsClosed which r cut
  pub plan_is : replay.plan ≡ plan_of which r
  pub order : List ℕ
  pub ordered : IsReplayOrder (plan_of which r) order
  pub state_is : replay.state ≡ played (plan_of which r) order
  pub within : (core : ℕ) → counts nought order core ≤ count_in cut core

-- each other core has come as far as the clock asks
abbrev pub IsWaitedFor : UnderWay → (core : ℕ) → (clock : List ℕ) → Type 0
IsWaitedFor replay core clock = (of : ℕ) → of < length replay.plan.totals → of ≢ core →
    slice_index clock of ≤ counts_in replay.state of

-- the core's next instruction is in the cut, and the core is ready
pub record IsDue (cut : Cut) (replay : UnderWay) (core : ℕ) : Type 0 where
  pub inside : core < length replay.plan.totals
  pub below : counts_in replay.state core < count_in cut core
  pub ready : is_ready replay.plan (counts_in replay.state) core ≡ true

abbrev pub NoneIsDue : Cut → UnderWay → Type 0
NoneIsDue cut replay = (core : ℕ) → IsDue cut replay core → ⊥
