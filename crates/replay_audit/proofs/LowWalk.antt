-- The low order is walked, and the clocks of its instructions are noted.
use Rattle.std.proofs.Common.{◌≡◌, ◌∙◌, ℕ, ◌+◌, ◌-◌, ◌<◌, ◌≤◌, List, [], ◌∷◌, ◌++◌, length, replicate, sym, ap, subst}
use Rattle.std.proofs.Common.{arith, take, get_or, zero, suc}
use Rattle.std.specs.Prelude.{slice_set, Some, None}
use Rattle.rtr_types.specs.declared.instr.Instr.{Instr}
use Rattle.rtr_types.specs.declared.pairs.Which.{Which}
use Rattle.race_log.specs.declared.recording.Recording.{Recording}
use Rattle.race_log.specs.Sources.{log_edges}
use Rattle.race_log.specs.Validity.{Valid}
use Rattle.replay_core.specs.Plans.{Plan, plan_of}
use Rattle.replay_core.specs.Play.{instr}
use Rattle.replay_core.specs.Orders.{bump, counts, nought, Full, IsWhole, Ready, Ordered, lowest_ready, low_order}
use Rattle.replay_core.proofs.Counts.{bump_here, counts_on, counts_more}
use Rattle.replay_core.specs.Sources.{AreSources}
use Rattle.replay_core.specs.Tallies.{Tallied, count_of}
use Rattle.replay_core.proofs.LowCounts.{Counted, counted_start, counted_on, ready_there, low_is, whole_is}
use Rattle.replay_audit.specs.Clocks.{CanNote, Kept, IsNoted, Clocked, clocks_of, number_of}
use Rattle.replay_audit.specs.Walks.{IsWalk}
use Rattle.replay_audit.proofs.ClockSteps.{clocked_on, clocked_start}

-- the tally is at the end of the order, which is a front of the low order, and its instructions are noted
pub record Walking (which : Which) (r : Recording) (order : List ℕ) (t : Tallied) (k : Kept) : Type 0 where
  pub counted : Counted (plan_of which r) order t
  pub clocked : Clocked (log_edges which r) r.params.cores (counts nought order) k

pub walking_start : (which : Which) (r : Recording) (cores : ℕ) (t : Tallied) (k : Kept) → Valid r →
    t.plan ≡ plan_of which r → t.counts ≡ replicate (length r.totals) 0 → cores ≡ length t.plan.totals →
    k.clocks ≡ replicate cores [] → Walking which r [] t k
walking_start which r cores t k valid plan_is counts_is cores_is clocks = record {
  counted = counted_start (plan_of which r) t plan_is counts_is;
  clocked = subst (λ (n : ℕ). Clocked (log_edges which r) n nought k)
      (cores_is ∙ ap (λ (q : Plan). length q.totals) plan_is ∙ valid.each_core)
      (clocked_start (log_edges which r) cores k clocks);
}

module _ {which : Which} {r : Recording} (valid : Valid r) {order : List ℕ} {t : Tallied} {k : Kept}
    (w : Walking which r order t k) where
  -- the next instruction, of the lowest core that is ready
  module _ {c : ℕ} (some : lowest_ready t.plan (count_of t.counts) ≡ Some c) {at : Instr}
      (at_is : at ≡ instr c (count_of t.counts c + 1)) where
    pub ready : Ready (plan_of which r) (counts nought order) c
    ready = ready_there (plan_of which r) order t w.counted c some

    pub at_next : at ≡ instr c (counts nought order c + 1)
    at_next = at_is ∙ ap (λ (g : ℕ → ℕ). instr c (g c + 1)) w.counted.tally

    core_is : at.core ≡ c
    core_is = ap (λ (x : Instr). x.core) at_is

    pub can_note : CanNote k at
    can_note =
        let e = core_is in
        let count_is = ap (λ (x : Instr). x.count) at_is in
        let lt = ready.inside in
        let a = valid.each_core in
        let m = valid.params.cores in
        let clocks = w.clocked.all_clocks in
        let before : (at.count - 1) ≡ counts nought order c =
        let n = ap (λ (g : ℕ → ℕ). g c) w.counted.tally in omega arith in
        record {
          core = omega arith;
          clocks = omega arith;
          some = omega arith;
          last = subst (λ (d : ℕ). number_of k d (at.count - 1) ≡ length (clocks_of k d)) (sym e)
              (ap (number_of k c) before ∙ w.clocked.last c (omega arith));
        }

    pub sources_next : {sources : List ℕ} → AreSources t.plan.edges (instr c (count_of t.counts c + 1)) sources →
        AreSources (log_edges which r) (instr c (counts nought order c + 1)) sources
    sources_next {sources} are = subst (λ (x : Instr). AreSources (log_edges which r) x sources) (sym at_is ∙ at_next)
        (subst (λ (q : Plan). AreSources q.edges (instr c (count_of t.counts c + 1)) sources) w.counted.plan_is are)

    -- it is noted
    pub walking_on : (u : Tallied) (sources : List ℕ) (cores : ℕ) (new : Kept) →
        u.plan ≡ t.plan → u.counts ≡ slice_set t.counts c (count_of t.counts c + 1) →
        AreSources t.plan.edges (instr c (count_of t.counts c + 1)) sources → cores ≡ length t.plan.totals →
        IsNoted k at sources cores new → Walking which r (order ++ c ∷ []) u new
    walking_on u sources cores new kept counts_is are cores_is noted = record {
      counted = counted_on (plan_of which r) order t w.counted c some u kept counts_is;
      clocked = subst (λ (g : ℕ → ℕ). Clocked (log_edges which r) r.params.cores g new)
          (sym (counts_on nought order (c ∷ [])))
          (clocked_on which r valid (counts nought order) k w.clocked c sources new ready (sources_next are)
          noted_there);
    }
      where
        cores_there : cores ≡ r.params.cores
        cores_there = cores_is ∙ ap (λ (q : Plan). length q.totals) w.counted.plan_is ∙ valid.each_core

        noted_there : IsNoted k (instr c (counts nought order c + 1)) sources r.params.cores new
        noted_there = subst (λ (x : Instr). IsNoted k x sources r.params.cores new) at_next
            (subst (λ (n : ℕ). IsNoted k at sources n new) cores_there noted)

  -- no core is ready: it is the low order
  module _ (none : lowest_ready t.plan (count_of t.counts) ≡ None) where
    pub low_whole : (Full t.plan (count_of t.counts) → IsWhole (plan_of which r) (low_order (plan_of which r))) ×
        (IsWhole (plan_of which r) (low_order (plan_of which r)) → Full t.plan (count_of t.counts))
    low_whole = whole_is (plan_of which r) order t w.counted none

    pub walk_is : IsWhole (plan_of which r) (low_order (plan_of which r)) → IsWalk which r order k
    walk_is whole = record {
      valid = valid;
      order_is = sym (low_is (plan_of which r) order t w.counted none);
      whole = subst (λ (l : List ℕ). IsWhole (plan_of which r) l) (low_is (plan_of which r) order t w.counted none)
          whole;
      clocked = w.clocked;
    }

-- ---- places of a walked order

-- each place's core is ready there
pub ready_at : (p : Plan) (f : ℕ → ℕ) (order : List ℕ) (k d : ℕ) → Ordered p f order → k < length order →
    Ready p (counts f (take k order)) (get_or order k d)
ready_at p f [] k d h lt = absurd (omega arith)
ready_at p f (c ∷ cs) zero d h lt = h.0
ready_at p f (c ∷ cs) (suc k) d h lt = ready_at p (bump f c) cs k d h.1 (omega arith)

-- and its count there is one of those that the order comes to
pub counted_at : (f : ℕ → ℕ) (order : List ℕ) (k d : ℕ) → k < length order →
    counts f (take k order) (get_or order k d) + 1 ≤ counts f order (get_or order k d)
counted_at f [] k d lt = absurd (omega arith)
counted_at f (c ∷ cs) zero d lt = let b = bump_here f c in let m = counts_more (bump f c) cs c in omega arith
counted_at f (c ∷ cs) (suc k) d lt = counted_at (bump f c) cs k d (omega arith)
