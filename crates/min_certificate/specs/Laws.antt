-- What a certificate shows of its recording, once that is determinate by its reduced log.
use Rattle.std.specs.Prelude.{ℕ, ◌≤◌, ◌⊎◌, ◌↔◌, List, slice_index}
use Rattle.rtr_types.specs.declared.instr.Instr.{Instr}
use Rattle.rtr_types.specs.declared.pairs.Which.TheVariants.{Reduced}
use Rattle.clock_core.specs.Order.{Within, Among}
use Rattle.conflict_edge.specs.Conflicts.{ConflictPair}
use Rattle.conflict_edge.specs.Least.{IsLeast}
use Rattle.race_log.specs.declared.recording.Recording.{Recording}
use Rattle.race_log.specs.Validity.{Valid}
use Rattle.replay_core.specs.Plans.{plan_of}
use Rattle.replay_core.specs.Play.{accesses_of}
use Rattle.replay_core.specs.Orders.{IsReplayOrder, IsWhole}
use Rattle.clock_entries.specs.Ends.{IsEnd}
use Rattle.clock_entries.specs.Entries.{IsAmiss}
use Rattle.replay_audit.specs.Determinate.{IsDeterminate, low_accesses}
use Rattle.certificate_codec.specs.declared.certificate.Certificate.{Certificate}
use Rattle.certificate_codec.specs.Ends.{reduced_edges}
use Rattle.min_certificate.specs.Places.{entry_in, AreGoodIn, AreExactIn, IsNeededIn, IsKnownOtherwiseIn}

-- ---- of a recording

-- a conflict of the low order's accesses
abbrev pub IsConflictIn : Recording → Instr → Instr → Type 0
IsConflictIn r x y = ConflictPair (low_accesses Reduced r) x y

abbrev pub AllConflict : Recording → Type 0
AllConflict r = Within (Among (reduced_edges r)) (IsConflictIn r)

-- the reduced log is the least set of the low order's accesses
abbrev pub IsLeastIn : Recording → Type 0
IsLeastIn r = IsLeast (low_accesses Reduced r) (reduced_edges r)

-- no conflict, or implied by the other edges
abbrev pub IsAmissIn : Recording → Instr → Instr → Type 0
IsAmissIn r x y = IsAmiss (low_accesses Reduced r) (reduced_edges r) x y

-- it is the least set of the accesses of every whole replay order, since each conflict has one order in all of them
abbrev pub LeastInEveryOrder : Recording → Type 0
LeastInEveryOrder r = (order : List ℕ) → IsReplayOrder (plan_of Reduced r) order → IsWhole (plan_of Reduced r) order →
    IsLeast (accesses_of (plan_of Reduced r) order) (reduced_edges r)

abbrev pub EveryOrderIsLeastLaw : Type 0
EveryOrderIsLeastLaw = (r : Recording) → Valid r → IsDeterminate Reduced r → IsLeastIn r → LeastInEveryOrder r

-- if it is the least of one whole replay order, it is the least of the low order
abbrev pub AnyOrderIsLeastLaw : Type 0
AnyOrderIsLeastLaw = (r : Recording) (order : List ℕ) → Valid r → IsDeterminate Reduced r →
    IsReplayOrder (plan_of Reduced r) order → IsWhole (plan_of Reduced r) order →
    IsLeast (accesses_of (plan_of Reduced r) order) (reduced_edges r) → IsLeastIn r

-- it is least exactly where none of its edges is amiss
abbrev pub NotLeastLaw : Type 0
NotLeastLaw = (r : Recording) → Valid r → IsDeterminate Reduced r →
    IsLeastIn r ↔ ((x y : Instr) → Among (reduced_edges r) x y → IsAmissIn r x y → ⊥)

-- ---- of a certificate

-- what a check tests once the recording is determinate: each edge is a conflict, the entries are good, each edge is
-- needed
pub record Passes (c : Certificate) : Type 0 where
  pub conflicts : AllConflict c.recording
  pub good : AreGoodIn c
  pub needed : (x y : Instr) → Among (reduced_edges c.recording) x y → IsNeededIn c x y

-- where it passes, the reduced log is least, whoever made the certificate
abbrev pub PassedIsLeastLaw : Type 0
PassedIsLeastLaw = (c : Certificate) → Valid c.recording → IsDeterminate Reduced c.recording →
    Passes c → IsLeastIn c.recording

-- where the reduced log is least, exact entries pass
abbrev pub LeastPassesLaw : Type 0
LeastPassesLaw = (c : Certificate) → Valid c.recording → IsDeterminate Reduced c.recording →
    IsLeastIn c.recording → AreExactIn c → Passes c

-- exact entries decide which edges are amiss
abbrev pub AmissByEntriesLaw : Type 0
AmissByEntriesLaw = (c : Certificate) (x y : Instr) → Valid c.recording → IsDeterminate Reduced c.recording →
    AreExactIn c → Among (reduced_edges c.recording) x y →
    IsAmissIn c.recording x y ↔ ((IsConflictIn c.recording x y → ⊥) ⊎ IsKnownOtherwiseIn c x y)

-- each count of an exact entry is at most its core's total, so that the certificate has a spelling
abbrev pub ExactFitsLaw : Type 0
ExactFitsLaw = (c : Certificate) (x : Instr) (i : ℕ) → Valid c.recording → AreExactIn c →
    IsEnd (reduced_edges c.recording) x → entry_in c x i ≤ slice_index c.recording.totals i
