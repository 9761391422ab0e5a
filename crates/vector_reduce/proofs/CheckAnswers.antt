-- What a check answers.
use Rattle.std.proofs.Common.{◌≡◌, ◌∙◌, ℕ, ◌+◌, ◌-◌, ◌^◌, ◌<◌, List, length, None, Some, refl, subst, arith}
use Rattle.rtr_types.specs.declared.pairs.Which.TheVariants.{Regulated}
use Rattle.race_log.specs.declared.recording.Recording.{Recording}
use Rattle.replay_audit.specs.declared.audit_fault.AuditFault.{AuditFault}
use Rattle.replay_audit.specs.declared.audit_fault.AuditFault.TheVariants as audits
use Rattle.replay_audit.specs.Audits.{AuditRefuses, Findings, IsAuditOf, Passed}
use Rattle.replay_audit.specs.Determinate.{IsDeterminate}
use Rattle.replay_audit.proofs.RefusedLogs.{refused_law}
use Rattle.vector_reduce.specs.declared.answers.ThinCheckFault.TheVariants as checks
use Rattle.vector_reduce.specs.declared.thinned.Thinned.{Thinned}
use Rattle.vector_reduce.specs.Answers.{IsAccepted, ThinCheckRefuses, fault_of_audit}
use Rattle.vector_reduce.specs.Showing.{EachShown, FirstNotShown, no_shown}
use Rattle.vector_reduce.specs.Vectors.{others_of, vector_at, vectors_of}
use Rattle.vector_reduce.proofs.ThinningAnswers.{shown_is_needed}
use Rattle.std.specs.Prelude.{IfSome, Option, slice_index_or}
use Rattle.vector_reduce.specs.declared.pair_vector.PairVector.{PairVector}
use Rattle.vector_reduce.specs.declared.thinned.Shown.{Shown}
use Rattle.rtr_types.specs.declared.pairs.Which.{Which}

pub audit_refuses : (t : Thinned) (fault : AuditFault) → AuditRefuses Regulated t.recording fault →
    ThinCheckRefuses t (fault_of_audit fault)
audit_refuses t (audits.Stuck cut) h = (h, λ e. absurd cc)
audit_refuses t (audits.Short core count) h = (h, λ e. absurd cc)
audit_refuses t (audits.Undetermined first second) h = (h, λ e. absurd cc)
audit_refuses t audits.OutOfMemory h = tt

-- the audit of a copy of a determinate recording is refused for want of memory alone
pub audit_complete : (r copy : Recording) (fault : AuditFault) → copy ≡ r → IsDeterminate Regulated r →
    AuditRefuses Regulated copy fault → fault_of_audit fault ≡ checks.OutOfMemory
audit_complete r copy fault same d h =
    refused_is_memory r fault d (subst (λ (q : Recording). AuditRefuses Regulated q fault) same h)
  where
    refused_is_memory : (r : Recording) (fault : AuditFault) → IsDeterminate Regulated r →
        AuditRefuses Regulated r fault → fault_of_audit fault ≡ checks.OutOfMemory
    refused_is_memory r (audits.Stuck cut) d h =
        absurd (refused_law Regulated r (audits.Stuck cut) h (λ e. absurd cc) d)
    refused_is_memory r (audits.Short core count) d h =
        absurd (refused_law Regulated r (audits.Short core count) h (λ e. absurd cc) d)
    refused_is_memory r (audits.Undetermined first second) d h =
        absurd (refused_law Regulated r (audits.Undetermined first second) h (λ e. absurd cc) d)
    refused_is_memory r audits.OutOfMemory d h = refl

-- of a copy of the recording
pub audited_is : (r copy : Recording) (a : Findings) → copy ≡ r → IsAuditOf Regulated copy a →
    IsDeterminate Regulated r
audited_is r copy a same h =
    let p : Passed Regulated a.recording a.outcome a.accesses =
    subst (λ (w : Which). Passed w a.recording a.outcome a.accesses) h.which_is h.passed in
    subst (λ (q : Recording). IsDeterminate Regulated q) (h.recording_is ∙ same) p.determinate

pub accepted : (t : Thinned) → IsDeterminate Regulated t.recording →
    FirstNotShown (vectors_of t.recording) t.shown None → IsAccepted t
accepted t d all = record {
  determinate = d;
  needed = λ k lt. shown_is_needed (others_of (vectors_of t.recording) k) (vector_at (vectors_of t.recording) k)
      (slice_index_or t.shown k no_shown) (all k lt);
  shown = all;
}

pub not_accepted : (t : Thinned) (number : ℕ) → IsDeterminate Regulated t.recording →
    FirstNotShown (vectors_of t.recording) t.shown (Some number) →
    ThinCheckRefuses t (checks.NotShown (number + 1))
not_accepted t number d first =
    record { determinate = d; before = number; number = refl; within = first.0; not_shown = first.1; first = first.2 }

pub shown_is_accepted : (t : Thinned) (number : ℕ) → EachShown t →
    FirstNotShown (vectors_of t.recording) t.shown (Some number) → ⊥
shown_is_accepted t number all first = first.1 (all number first.0)

pub first_fits : (vs : List PairVector) (shown : List Shown) (o : Option ℕ) → FirstNotShown vs shown o →
    length vs < 2 ^ 32 - 1 →
    IfSome o (λ number. number < 2 ^ 32 - 1)
first_fits vs shown None first few = tt
first_fits vs shown (Some number) first few = let lt = first.0 in omega (arith, lt, few)
