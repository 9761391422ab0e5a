-- The low order of a log that was walked once, and the clocks of its instructions.
use Rattle.std.specs.Prelude.{◌≡◌, List, ℕ, Option, Some, None}
use Rattle.rtr_types.specs.declared.pairs.Which.{Which}
use Rattle.race_log.specs.declared.recording.Recording.{Recording}
use Rattle.race_log.specs.Sources.{log_edges}
use Rattle.race_log.specs.Validity.{Valid}
use Rattle.replay_core.specs.Plans.{plan_of}
use Rattle.replay_core.specs.Orders.{IsWhole, counts, nought}
use Rattle.replay_audit.specs.Clocks.{Kept, Clocked}
use Rattle.replay_audit.specs.Determinate.{low_order_of}

-- what contracts see of a walked order: of which recording and log it is
pub record Walked : Type 0 where
  pub which : Which
  pub recording : Recording

-- the order is the log's low order, which is whole, and these are the clocks of its instructions
pub record IsWalk (which : Which) (r : Recording) (order : List ℕ) (kept : Kept) : Type 0 where
  pub valid : Valid r
  pub order_is : order ≡ low_order_of which r
  pub whole : IsWhole (plan_of which r) order
  pub clocked : Clocked (log_edges which r) r.params.cores (counts nought order) kept

-- there is such an order exactly where the low order is whole
abbrev pub IsLowWalk : Which → Recording → Option Walked → Type 0
IsLowWalk which r (Some w) = (w.which ≡ which) × (w.recording ≡ r) × IsWhole (plan_of which r) (low_order_of which r)
IsLowWalk which r None = IsWhole (plan_of which r) (low_order_of which r) → ⊥
