-- Rule: determinate by a log, with given values too: IsDeterminate, DecidesValued
-- Recordings that are determinate by a log.
use Rattle.std.specs.Prelude.{ℕ, List}
use Rattle.rtr_types.specs.declared.access.Access.{Access}
use Rattle.rtr_types.specs.declared.pairs.Which.{Which}
use Rattle.clock_core.specs.Order.{Among}
use Rattle.conflict_edge.specs.Least.{Suffices}
use Rattle.rv_core.specs.declared.outcome.Outcome.{Outcome}
use Rattle.race_log.specs.declared.recording.Recording.{Recording}
use Rattle.replay_core.specs.Plans.{Plan, plan_of}
use Rattle.replay_core.specs.Play.{Given, no_values, ValuedPlays, start, played, accesses_of, valued_accesses}
use Rattle.replay_core.specs.Orders.{IsReplayOrder, IsWhole, low_order}

-- the replay order is whole, its play with the given values falls short nowhere, and the log orders each two of its
-- accesses that conflict
pub record DecidesValued (given : Given) (p : Plan) (order : List ℕ) : Type 0 where
  pub ordered : IsReplayOrder p order
  pub whole : IsWhole p order
  pub plays : ValuedPlays given p (start p) order
  pub suffices : Suffices (valued_accesses given p order) (Among p.edges)

-- so without given values
abbrev pub Decides : Plan → List ℕ → Type 0
Decides p order = DecidesValued no_values p order

-- the low order of the recording's log
abbrev pub low_order_of : Which → Recording → List ℕ
low_order_of which r = low_order (plan_of which r)

-- what its play comes to, and its accesses
abbrev pub low_outcome : Which → Recording → Outcome
low_outcome which r = played (plan_of which r) (low_order_of which r)

abbrev pub low_accesses : Which → Recording → List Access
low_accesses which r = accesses_of (plan_of which r) (low_order_of which r)

-- the low order decides; any other whole replay order may take its part
abbrev pub IsDeterminate : Which → Recording → Type 0
IsDeterminate which r = Decides (plan_of which r) (low_order_of which r)
