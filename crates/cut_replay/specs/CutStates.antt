-- Rule: the state at a closed cut: IsStateAt
-- The state that a closed cut stands for.
use Rattle.std.specs.Prelude.{◌≡◌, ℕ, List}
use Rattle.rtr_types.specs.declared.cut.Cut.{Cut}
use Rattle.rtr_types.specs.declared.pairs.Which.{Which}
use Rattle.rv_core.specs.declared.outcome.Outcome.{Outcome}
use Rattle.race_log.specs.declared.recording.Recording.{Recording}
use Rattle.replay_core.specs.Plans.{plan_of}
use Rattle.replay_core.specs.Play.{Plays, start, played}
use Rattle.replay_core.specs.Orders.{counts, nought, IsReplayOrder}
use Rattle.cut_replay.specs.ClosedCuts.{count_in}

-- a replay order of the log whose counts are the cut's
pub record Reaches (which : Which) (r : Recording) (cut : Cut) (order : List ℕ) : Type 0 where
  pub ordered : IsReplayOrder (plan_of which r) order
  pub counts_are : (core : ℕ) → counts nought order core ≡ count_in cut core

-- the order's play falls short nowhere and comes to this outcome
pub record PlaysTo (which : Which) (r : Recording) (order : List ℕ) (outcome : Outcome) : Type 0 where
  pub plays : Plays (plan_of which r) (start (plan_of which r)) order
  pub outcome_is : outcome ≡ played (plan_of which r) order

-- some replay order reaches the cut, and every one that does plays to these cores, this memory and these loads
pub record IsStateAt (which : Which) (r : Recording) (cut : Cut) (outcome : Outcome) : Type 0 where
  pub some_order : (order : List ℕ) × Reaches which r cut order
  pub every_order : (order : List ℕ) → Reaches which r cut order → PlaysTo which r order outcome

-- there is one
abbrev pub OneStateLaw : Type 0
OneStateLaw = (which : Which) (r : Recording) (cut : Cut) (outcome other : Outcome) →
    IsStateAt which r cut outcome → IsStateAt which r cut other → outcome ≡ other
