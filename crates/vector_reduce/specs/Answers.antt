-- Rule: a log that was thinned: IsThinningOf
-- What thinning and its check answer.
use Rattle.std.specs.Prelude.{◌≡◌, ◌≢◌, ℕ, ◌+◌, ◌<◌, ◌≤◌, ◌⊎◌, ◌↔◌, List, length}
use Rattle.rtr_types.specs.declared.instr.Instr.{Instr}
use Rattle.rtr_types.specs.declared.pairs.Which.TheVariants.{Regulated}
use Rattle.clock_core.specs.Order.{Before, Among}
use Rattle.race_log.specs.declared.recording.Recording.{Recording}
use Rattle.replay_core.specs.Plans.{plan_of}
use Rattle.replay_core.specs.Orders.{IsReplayOrder}
use Rattle.replay_audit.specs.declared.audit_fault.AuditFault.{AuditFault}
use Rattle.replay_audit.specs.declared.audit_fault.AuditFault.TheVariants as audits
use Rattle.replay_audit.specs.Audits.{AuditRefuses, fault_by}
use Rattle.replay_audit.specs.Determinate.{IsDeterminate}
use Rattle.vector_reduce.specs.declared.answers.ThinFault.{ThinFault}
use Rattle.vector_reduce.specs.declared.answers.ThinFault.TheVariants as thins
use Rattle.vector_reduce.specs.declared.answers.ThinCheckFault.{ThinCheckFault}
use Rattle.vector_reduce.specs.declared.answers.ThinCheckFault.TheVariants as checks
use Rattle.vector_reduce.specs.declared.thinned.Thinned.{Thinned}
use Rattle.vector_reduce.specs.Showing.{EachLeastShown, EachShown, IsShownAt}
use Rattle.vector_reduce.specs.Thinning.{EachNeeded, IsThinned}
use Rattle.vector_reduce.specs.Validity.{IsThin}
use Rattle.vector_reduce.specs.Vectors.{regulated_edges, vectors_of}

-- ---- thinning

-- more than 4,096 vectors, or more than 65,536 positions of all vectors together: so many aren't tried
abbrev pub AreTooMany : Recording → Type 0
AreTooMany r = (4096 < length (vectors_of r)) ⊎ (65536 < length (regulated_edges r))

pub record AreFew (r : Recording) : Type 0 where
  pub vectors : length (vectors_of r) ≤ 4096
  pub positions : length (regulated_edges r) ≤ 65536

-- all but the regulated log
pub record IsSameButLog (r s : Recording) : Type 0 where
  pub params : s.params ≡ r.params
  pub image : s.image ≡ r.image
  pub totals : s.totals ≡ r.totals
  pub reduced : s.reduced ≡ r.reduced

-- the same is before by the one regulated log and by the other
abbrev pub HaveSameBefore : Recording → Recording → Type 0
HaveSameBefore r s =
    (x y : Instr) → Before (Among (regulated_edges r)) x y ↔ Before (Among (regulated_edges s)) x y

-- the two regulated logs have the same replay orders, whole ones and others
abbrev pub HaveSameOrders : Recording → Recording → Type 0
HaveSameOrders r s =
    (order : List ℕ) → IsReplayOrder (plan_of Regulated r) order ↔ IsReplayOrder (plan_of Regulated s) order

-- the recording with fewer vectors, each of them needed, with what shows it
pub record IsThinningOf (r : Recording) (t : Thinned) : Type 0 where
  pub few : AreFew r
  pub thin : IsThin t
  pub rest : IsSameButLog r t.recording
  pub vectors : IsThinned (vectors_of r) (vectors_of t.recording)
  pub same_before : HaveSameBefore r t.recording
  pub same_orders : HaveSameOrders r t.recording
  pub needed : EachNeeded (vectors_of t.recording)
  pub shown : EachLeastShown t
  pub determinate : IsDeterminate Regulated t.recording

-- the two numbers are those of the vectors and of their positions, and too great
pub record IsTooMany (r : Recording) (vectors edges : ℕ) : Type 0 where
  pub vectors_is : vectors ≡ length (vectors_of r)
  pub edges_is : edges ≡ length (regulated_edges r)
  pub too_many : AreTooMany r

abbrev pub too_many_of : Recording → ThinFault
too_many_of r = thins.TooMany (length (vectors_of r)) (length (regulated_edges r))

-- there are too many, and the fault has their numbers
abbrev pub IsRefusedFor : Recording → ThinFault → Type 0
IsRefusedFor r fault = AreTooMany r × (fault ≡ too_many_of r)

-- why nothing is left out. Want of memory says nothing
abbrev pub ThinRefuses : Recording → ThinFault → Type 0
ThinRefuses r (thins.TooMany vectors edges) = IsTooMany r vectors edges
ThinRefuses r thins.OutOfMemory = Unit {0}

-- ---- checking

-- the recording is determinate by its regulated log, and each vector is needed: by these cuts
pub record IsAccepted (t : Thinned) : Type 0 where
  pub determinate : IsDeterminate Regulated t.recording
  pub needed : EachNeeded (vectors_of t.recording)
  pub shown : EachShown t

-- the audit passed, and this vector, counted from 1, is the first that isn't shown to be needed
pub record IsNotShown (t : Thinned) (vector : ℕ) : Type 0 where
  pub determinate : IsDeterminate Regulated t.recording
  pub before : ℕ
  pub number : before + 1 ≡ vector
  pub within : before < length (vectors_of t.recording)
  pub not_shown : IsShownAt t before → ⊥
  pub first : (k : ℕ) → k < before → IsShownAt t k

-- why it isn't accepted. Want of memory says nothing, and an audit is never told as refused for it
abbrev pub ThinCheckRefuses : Thinned → ThinCheckFault → Type 0
ThinCheckRefuses t (checks.Audit fault) = AuditRefuses Regulated t.recording fault × (fault ≢ audits.OutOfMemory)
ThinCheckRefuses t (checks.NotShown vector) = IsNotShown t vector
ThinCheckRefuses t checks.OutOfMemory = Unit {0}

-- what a check tells of an audit that was refused
abbrev pub fault_of_audit : AuditFault → ThinCheckFault
fault_of_audit fault = fault_by checks.Audit checks.OutOfMemory fault
