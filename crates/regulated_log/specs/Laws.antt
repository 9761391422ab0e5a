-- What the regulated log has.
use Rattle.std.specs.Prelude.{◌≢◌, ℕ, ◌<◌, ◌≤◌, ◌↔◌, List, [], length, slice_index, slice_index_or}
use Rattle.rtr_types.specs.Pairs.{IsPair}
use Rattle.rtr_types.specs.declared.instr.Instr.{Instr}
use Rattle.rtr_types.specs.declared.access.Access.{Access}
use Rattle.rtr_types.specs.declared.pairs.Which.TheVariants.{Reduced, Regulated}
use Rattle.clock_core.specs.Order.{Among, Before}
use Rattle.conflict_edge.specs.Least.{Suffices}
use Rattle.race_log.specs.declared.recording.Recording.{Recording}
use Rattle.race_log.specs.Sources.{HasEdge, log_edges}
use Rattle.race_log.specs.Validity.{Valid}
use Rattle.replay_core.specs.Plans.{plan_of}
use Rattle.replay_core.specs.Play.{instr}
use Rattle.replay_core.specs.Orders.{counts, nought, IsReplayOrder, IsWhole}
use Rattle.edge_regulate.specs.Regulated.{Knowledge}
use Rattle.regulated_log.specs.Logs.{with_regulated, IsPast, RetiresBefore}

-- The regulated log implies the reduced one, with no more vectors for a pair than that has edges.
pub record Implies (known : Knowledge) (r : Recording) : Type 0 where
  pub each : (x y : Instr) → HasEdge Reduced r x y → Before (Among (log_edges Regulated (with_regulated known r))) x y
  pub few : (place : ℕ) →
      length (slice_index_or (with_regulated known r).regulated place []) ≤ length (slice_index_or r.reduced place [])
  pub suffices : (list : List Access) → Suffices list (Among (log_edges Reduced r)) →
      Suffices list (Among (log_edges Regulated (with_regulated known r)))

abbrev pub ImpliesLaw : Type 0
ImpliesLaw = (known : Knowledge) (r : Recording) → Valid r → Implies known r

-- no more is known of a core than it retires
pub record IsWithin (totals : List ℕ) (known : Knowledge) : Type 0 where
  pub each : (core count of : ℕ) → core < length totals → of < length totals → of ≢ core → 1 ≤ count →
      count ≤ slice_index totals core → known core count of ≤ slice_index totals of

-- It can be spelled.
abbrev pub ValidLaw : Type 0
ValidLaw = (known : Knowledge) (r : Recording) → Valid r → IsWithin r.totals known → Valid (with_regulated known r)

-- The order of retirement meets it, where that meets the reduced log.
abbrev pub OrderLaw : Type 0
OrderLaw = (known : Knowledge) (order : List ℕ) (r : Recording) → Valid r → IsPast r.params.cores order known →
    IsReplayOrder (plan_of Reduced r) order → IsReplayOrder (plan_of Regulated (with_regulated known r)) order

-- What is known and retires before is within the totals, where the order is whole.
abbrev pub WithinLaw : Type 0
WithinLaw = (known : Knowledge) (order : List ℕ) (r : Recording) → Valid r → IsPast r.params.cores order known →
    IsWhole (plan_of Reduced r) order → IsWithin r.totals known

-- Each edge goes from an instruction to one that retires later.
abbrev pub ForwardLaw : Type 0
ForwardLaw = (known : Knowledge) (order : List ℕ) (r : Recording) (x y : Instr) → Valid r →
    IsPast r.params.cores order known → IsReplayOrder (plan_of Reduced r) order → IsWhole (plan_of Reduced r) order →
    HasEdge Regulated (with_regulated known r) x y → RetiresBefore order x y

-- ---- whole

-- the regulated log of a run: each edge goes forward, each reduced edge is before by it, it has no more vectors than
-- that has
-- edges, the order of retirement meets it, and it can be spelled
pub record IsGood (known : Knowledge) (order : List ℕ) (r : Recording) : Type 0 where
  pub forward : (x y : Instr) → HasEdge Regulated (with_regulated known r) x y → RetiresBefore order x y
  pub implies : Implies known r
  pub ordered : IsReplayOrder (plan_of Regulated (with_regulated known r)) order
  pub whole : IsWhole (plan_of Regulated (with_regulated known r)) order
  pub valid : Valid (with_regulated known r)

abbrev pub RegulatedLaw : Type 0
RegulatedLaw = (known : Knowledge) (order : List ℕ) (r : Recording) → Valid r → IsPast r.params.cores order known →
    IsReplayOrder (plan_of Reduced r) order → IsWhole (plan_of Reduced r) order → IsGood known order r

-- ---- what is past, in words of instructions

-- each instruction that is known at one has retired before it
abbrev pub KnownRetired : ℕ → List ℕ → Knowledge → Type 0
KnownRetired cores order known = (core count of a : ℕ) → IsPair cores of core → 1 ≤ a → a ≤ known core count of →
    1 ≤ count → count ≤ counts nought order core → RetiresBefore order (instr of a) (instr core count)

abbrev pub PastLaw : Type 0
PastLaw = (cores : ℕ) (order : List ℕ) (known : Knowledge) → KnownRetired cores order known ↔ IsPast cores order known
