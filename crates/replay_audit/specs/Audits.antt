-- What an audit answers.
use Rattle.std.specs.Prelude.{◌≡◌, ℕ, Bool, IsTrue, List, [], length, replicate, Option, Some, None}
use Rattle.replay_core.specs.Answers.{UnderWay}
use Rattle.replay_core.specs.Tallies.{Tallied}
use Rattle.replay_audit.specs.Trails.{Trailed}
use Rattle.rtr_types.specs.declared.instr.Instr.{Instr}
use Rattle.rtr_types.specs.declared.access.Access.{Access}
use Rattle.rtr_types.specs.declared.pairs.Which.{Which}
use Rattle.rtr_types.specs.Nodes.{IsNode}
use Rattle.clock_core.specs.Order.{Among}
use Rattle.clock_core.specs.Reach.{IsClock}
use Rattle.rv_core.specs.declared.outcome.Outcome.{Outcome}
use Rattle.race_log.specs.declared.recording.Recording.{Recording}
use Rattle.race_log.specs.Sources.{log_edges}
use Rattle.race_log.specs.Validity.{Valid}
use Rattle.replay_core.specs.Plans.{plan_of}
use Rattle.replay_core.specs.Play.{start, first_short}
use Rattle.replay_core.specs.Orders.{IsReplayOrder, IsWhole}
use Rattle.replay_core.specs.Answers.{EndsAt}
use Rattle.replay_audit.specs.Clocks.{Kept, clock_at}
use Rattle.replay_audit.specs.Determinate.{IsDeterminate, low_order_of, low_outcome, low_accesses}
use Rattle.replay_audit.specs.Laws.{Agrees}
use Rattle.replay_audit.specs.Unordered.{IsUnordered}
use Rattle.replay_audit.specs.declared.audit_fault.AuditFault.{AuditFault}
use Rattle.replay_audit.specs.declared.audit_fault.AuditFault.TheVariants as faults

-- ---- what passes

-- what contracts see of a recording that passed
pub record Findings : Type 0 where
  pub recording : Recording
  pub which : Which
  pub outcome : Outcome
  pub accesses : List Access

-- every replay order of the log, whole or not, agrees with the low order: it plays, gives each load the same value, and
-- can go on until it is whole, where it ends in the same outcome
abbrev pub EveryOrderAgrees : Which → Recording → Type 0
EveryOrderAgrees which r =
    (order : List ℕ) → IsReplayOrder (plan_of which r) order → Agrees (plan_of which r) (low_order_of which r) order

-- the recording is determinate by the log, this is what the low order comes to, and every order agrees with it
pub record Passed (which : Which) (r : Recording) (outcome : Outcome) (list : List Access) : Type 0 where
  pub determinate : IsDeterminate which r
  pub outcome_is : outcome ≡ low_outcome which r
  pub accesses_is : list ≡ low_accesses which r
  pub every_order : EveryOrderAgrees which r

abbrev pub PassesOf : Findings → Type 0
PassesOf a = Passed a.which a.recording a.outcome a.accesses

-- it is the audit of this recording by this log
pub record IsAuditOf (which : Which) (r : Recording) (audited : Findings) : Type 0 where
  pub which_is : audited.which ≡ which
  pub recording_is : audited.recording ≡ r
  pub passed : PassesOf audited

-- an instruction of the recording: a count of one of its cores, from 1 to the core's total
abbrev pub IsInstrOf : Recording → Instr → Type 0
IsInstrOf r at = IsNode r.totals at

-- the clocks that are kept give each instruction's clock by the log
abbrev pub AreClocksOf : Which → Recording → Kept → Type 0
AreClocksOf which r kept =
    (at : Instr) → IsInstrOf r at → IsClock (Among (log_edges which r)) at (clock_at kept at)

-- what is kept of a valid recording that passed
pub record HasPassed (which : Which) (r : Recording) (outcome : Outcome) (list : List Access) (kept : Kept)
    : Type 0 where
  pub valid : Valid r
  pub passed : Passed which r outcome list
  pub clocks : AreClocksOf which r kept

-- the recording is determinate by the log, this is how the low order ends, and every order agrees with it
pub record IsReplayOf (which : Which) (r : Recording) (outcome : Outcome) : Type 0 where
  pub determinate : IsDeterminate which r
  pub outcome_is : outcome ≡ low_outcome which r
  pub every_order : EveryOrderAgrees which r

-- what a pass comes to: the replay, and where the accesses are listed all that is kept
pub record HasFollowed (listed : Bool) (which : Which) (r : Recording) (outcome : Outcome) (list : List Access)
    (kept : Kept) : Type 0 where
  pub replayed : IsReplayOf which r outcome
  pub passed : IsTrue listed → HasPassed which r outcome list kept

-- a tally, a replay and a trail at the start of the low order
pub record Begins (which : Which) (r : Recording) (t : Tallied) (u : UnderWay) (s : Trailed) : Type 0 where
  pub tally_plan : t.plan ≡ plan_of which r
  pub counts : t.counts ≡ replicate (length r.totals) 0
  pub replay_plan : u.plan ≡ plan_of which r
  pub state : u.state ≡ start (plan_of which r)
  pub clocks : s.kept.clocks ≡ replicate (length t.plan.totals) []
  pub accesses : s.accesses ≡ []
  pub found : s.found ≡ None

-- ---- what is refused

-- the low order plays from its start to its end, or falls short first at a core that has retired so many instructions
abbrev pub low_short : Which → Recording → Option (ℕ × ℕ)
low_short which r = first_short (plan_of which r) (start (plan_of which r)) (low_order_of which r)

-- the low order is whole and plays, and the log leaves these two of its accesses unordered
pub record LeavesOpen (which : Which) (r : Recording) (first second : Instr) : Type 0 where
  pub plays : low_short which r ≡ None
  pub whole : IsWhole (plan_of which r) (low_order_of which r)
  pub unordered : IsUnordered (log_edges which r) (low_accesses which r) first second

-- why a recording doesn't pass. Want of memory says nothing
abbrev pub AuditRefuses : Which → Recording → AuditFault → Type 0
AuditRefuses which r (faults.Stuck cut) = EndsAt (plan_of which r) cut
AuditRefuses which r (faults.Short core count) = low_short which r ≡ Some (core, count)
AuditRefuses which r (faults.Undetermined first second) = LeavesOpen which r first second
AuditRefuses which r faults.OutOfMemory = Unit {0}

-- why a pass stops: where the accesses aren't listed, an unordered pair says nothing
abbrev pub FollowRefuses : (listed : Bool) → Which → Recording → AuditFault → Type 0
FollowRefuses listed which r (faults.Stuck cut) = AuditRefuses which r (faults.Stuck cut)
FollowRefuses listed which r (faults.Short core count) = AuditRefuses which r (faults.Short core count)
FollowRefuses listed which r (faults.Undetermined first second) =
    IsTrue listed → AuditRefuses which r (faults.Undetermined first second)
FollowRefuses listed which r faults.OutOfMemory = Unit {0}

-- what is made of a fault by what it says of the recording. Want of memory says nothing
abbrev pub fault_by : {E : Type 0} → (says : AuditFault → E) → (nothing : E) → AuditFault → E
fault_by says nothing (faults.Stuck cut) = says (faults.Stuck cut)
fault_by says nothing (faults.Short core count) = says (faults.Short core count)
fault_by says nothing (faults.Undetermined first second) = says (faults.Undetermined first second)
fault_by says nothing faults.OutOfMemory = nothing

-- what is refused for another reason isn't determinate
abbrev pub RefusedLaw : Type 0
RefusedLaw = (which : Which) (r : Recording) (e : AuditFault) → AuditRefuses which r e →
    (e ≡ faults.OutOfMemory → ⊥) → IsDeterminate which r → ⊥
