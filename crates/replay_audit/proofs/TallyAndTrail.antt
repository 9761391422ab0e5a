-- A tally and a trail go along an order together.
use Rattle.std.proofs.Common.{◌≡◌, ◌∙◌, ℕ, ◌<◌, List, [], length, replicate}
use Rattle.std.proofs.Common.{ap, subst, arith}
use Rattle.std.specs.Prelude.{IsTrue, None}
use Rattle.rtr_types.specs.declared.TheConstants.{CORES_MAX}
use Rattle.rtr_types.specs.declared.access.Access.{Access}
use Rattle.rtr_types.specs.declared.pairs.Which.{Which}
use Rattle.conflict_edge.specs.Conflicts.{CountsRise, StandsIn}
use Rattle.race_log.specs.declared.recording.Recording.{Recording}
use Rattle.race_log.specs.Sources.{log_edges}
use Rattle.race_log.specs.Validity.{Valid}
use Rattle.replay_core.specs.Plans.{Plan, plan_of}
use Rattle.replay_core.specs.Orders.{counts, nought}
use Rattle.replay_core.specs.Tallies.{Tallied}
use Rattle.replay_audit.specs.Trails.{Trailed, IsTrailOf}
use Rattle.replay_core.proofs.LowCounts.{Counted, counted_start}
use Rattle.replay_audit.proofs.TrailSteps.{trail_start}

-- the tally is at the end of the order, which is a front of the low order, and the trail has these accesses
pub record Followed (which : Which) (r : Recording) (order : List ℕ) (list : List Access) (t : Tallied) (s : Trailed)
    : Type 0 where
  pub counted : Counted (plan_of which r) order t
  pub trail : IsTrailOf (log_edges which r) r.params.cores (counts nought order) list s
  pub rise : CountsRise list
  pub inside : (b : Access) → StandsIn list b → b.at.core < length r.totals

-- nothing was done yet
pub record IsFresh (r : Recording) (p : Plan) (cores : ℕ) (t : Tallied) (s : Trailed) : Type 0 where
  pub plan_is : t.plan ≡ p
  pub counts_is : t.counts ≡ replicate (length r.totals) 0
  pub cores_is : cores ≡ length t.plan.totals
  pub clocks : s.kept.clocks ≡ replicate cores []
  pub accesses : s.accesses ≡ []
  pub found : s.found ≡ None

pub followed_start : (which : Which) (r : Recording) (cores : ℕ) (t : Tallied) (s : Trailed) → Valid r →
    IsFresh r (plan_of which r) cores t s → Followed which r [] [] t s
followed_start which r cores t s valid fresh = record {
  counted = counted_start (plan_of which r) t fresh.plan_is fresh.counts_is;
  trail = subst (λ (n : ℕ). IsTrailOf (log_edges which r) n nought [] s)
      (fresh.cores_is ∙ ap (λ (q : Plan). length q.totals) fresh.plan_is ∙ valid.each_core)
      (trail_start (log_edges which r) cores s fresh.clocks (λ l. fresh.accesses) fresh.found);
  rise = tt;
  inside = λ b q. absurd q;
}

module _ {which : Which} {r : Recording} (valid : Valid r) {order : List ℕ} {list : List Access} {t : Tallied}
    {s : Trailed}
    (f : Followed which r order list t s) where
  pub each_core : IsTrue s.listed → (b : Access) → StandsIn s.accesses b → b.at.core < CORES_MAX
  each_core listed b q =
      let lt = f.inside b (subst (λ (l : List Access). StandsIn l b) (f.trail.accesses_is listed) q) in
      let a = valid.each_core in
      let m = valid.params.cores in
      omega arith
