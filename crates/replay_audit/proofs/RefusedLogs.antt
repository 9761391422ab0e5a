-- What is refused isn't determinate.
use Rattle.std.proofs.Common.{inl, inr, ◌≡◌, ℕ, List, [], ◌∷◌, ◌++◌, refl, sym, subst}
use Rattle.std.specs.Prelude.{Option, Some, None}
use Rattle.rtr_types.specs.declared.instr.Instr.{Instr}
use Rattle.rtr_types.specs.declared.instr.Edge.{Edge}
use Rattle.rtr_types.specs.declared.access.Access.{Access}
use Rattle.rtr_types.specs.declared.pairs.Which.{Which}
use Rattle.clock_core.specs.Order.{Among}
use Rattle.conflict_edge.specs.Conflicts.{ConflictPair, StandsIn}
use Rattle.conflict_edge.specs.Least.{Suffices}
use Rattle.race_log.specs.declared.recording.Recording.{Recording}
use Rattle.replay_core.specs.Plans.{plan_of}
use Rattle.replay_core.specs.Play.{start, accesses_of}
use Rattle.replay_core.specs.Orders.{low_order}
use Rattle.replay_core.proofs.Lists.{short_law}
use Rattle.replay_audit.specs.declared.audit_fault.AuditFault.{AuditFault}
use Rattle.replay_audit.specs.declared.audit_fault.AuditFault.TheVariants.{Stuck, Short, Undetermined, OutOfMemory}
use Rattle.replay_audit.specs.Unordered.{IsUnordered}
use Rattle.replay_audit.specs.Audits.{AuditRefuses, RefusedLaw}
use Rattle.replay_audit.specs.Determinate.{IsDeterminate}
use Rattle.replay_audit.proofs.Pairs.{pairs_across}

stands_in_mid : (xs : List Access) (e : Access) (ys : List Access) → StandsIn (xs ++ e ∷ ys) e
stands_in_mid [] e ys = inl refl
stands_in_mid (x ∷ xs) e ys = inr (stands_in_mid xs e ys)

pub unordered_pair : (edges : List Edge) (list : List Access) (x y : Instr) → IsUnordered edges list x y →
    Suffices list (Among edges) → ⊥
unordered_pair edges list x y h suf =
    let f = h.partner in
    let earlier : StandsIn h.front f.earlier =
    subst (λ (l : List Access). StandsIn l f.earlier) (sym f.split) (stands_in_mid f.older f.earlier f.newer) in
    let pair : ConflictPair (h.front ++ h.later ∷ h.rest) f.earlier.at h.later.at =
    pairs_across h.front (h.later ∷ h.rest) f.earlier h.later earlier
    (inl refl) f.conflict in
    f.unordered (suf f.earlier.at h.later.at
    (subst (λ (l : List Access). ConflictPair l f.earlier.at h.later.at) (sym h.split) pair))

none_some : (o : Option (ℕ × ℕ)) (x : ℕ × ℕ) → o ≡ None → o ≡ Some x → ⊥
none_some o x e f = cc

pub refused_law : RefusedLaw
refused_law which r (Stuck cut) h other d = h.not_whole d.whole
refused_law which r (Short core count) h other d = none_some _ (core, count)
    ((short_law (plan_of which r) (start (plan_of which r)) (low_order (plan_of which r))).0 d.plays) h
refused_law which r (Undetermined first second) h other d = unordered_pair _
    (accesses_of (plan_of which r) (low_order (plan_of which r))) first second h.unordered d.suffices
refused_law which r OutOfMemory h other d = other refl

-- where a recording is determinate an audit is refused for want of memory alone
pub refused_is_memory : (which : Which) (r : Recording) (fault : AuditFault) → IsDeterminate which r →
    AuditRefuses which r fault → fault ≡ OutOfMemory
refused_is_memory which r (Stuck cut) d h = absurd (refused_law which r (Stuck cut) h (λ e. absurd cc) d)
refused_is_memory which r (Short core count) d h =
    absurd (refused_law which r (Short core count) h (λ e. absurd cc) d)
refused_is_memory which r (Undetermined first second) d h =
    absurd (refused_law which r (Undetermined first second) h (λ e. absurd cc) d)
refused_is_memory which r OutOfMemory d h = refl
