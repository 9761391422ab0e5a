-- Orders that go on by local instructions.
use Rattle.std.proofs.Common.{◌≡◌, ◌≢◌, ℕ, zero, suc, ◌+◌, ◌<◌, ◌≤◌, List, [], ◌∷◌, ◌++◌, length, refl, sym, ap, ◌∙◌}
use Rattle.std.proofs.Common.{subst, arith}
use Rattle.rv_core.specs.declared.core_state.Core.{Core}
use Rattle.rv_core.specs.declared.core_state.Need.{Need}
use Rattle.rv_core.specs.declared.core_state.Need.TheVariants.{Local}
use Rattle.rv_core.specs.declared.outcome.Outcome.{Outcome}
use Rattle.rv_core.specs.Steps.{need, after}
use Rattle.replay_core.specs.Plans.{Plan, plan_of}
use Rattle.replay_core.specs.Play.{use_of, old_for, old_at, core_at, need_at, place, start, played}
use Rattle.replay_core.specs.Orders.{bump, counts, nought, Sourced, Ready, IsReplayOrder}
use Rattle.replay_core.proofs.Counts.{bump_more, counts_on}
use Rattle.replay_core.proofs.Lists.{play_on, one_more}
use Rattle.replay_core.proofs.Places.{place_law, play_law}
use Rattle.replay_audit.specs.Laws.{Clash, IsDue, IsAhead, IsDueAhead, NeverDueLaw}
use Rattle.replay_audit.proofs.Swaps.{use_at}
use Rattle.replay_audit.proofs.Front.{sourced_more}
use Rattle.replay_audit.proofs.OrdersAgree.{never_clash}

-- an order that goes on to k with local instructions of core c
pub record WithLocals (p : Plan) (c : ℕ) (order : List ℕ) (k : Core) : Type 0 where
  pub longer : List ℕ
  pub ordered : IsReplayOrder p longer
  pub core : core_at (played p longer) c ≡ k
  pub others : (i : ℕ) → i ≢ c → core_at (played p longer) i ≡ core_at (played p order) i
  pub more : (i : ℕ) → counts nought order i ≤ counts nought longer i

pub due_ready : (p : Plan) (order : List ℕ) (f : ℕ → ℕ) (c : ℕ) (k : Core) → IsReplayOrder p order →
    ((i : ℕ) → f i ≤ counts nought order i) →
    c < length p.totals → core_at (played p order) c ≡ k → IsDue p f c k → Ready p (counts nought order) c
due_ready p order f c k ord le lt at due =
    let e : k.count ≡ counts nought order c =
    ap (λ (x : Core). x.count) (sym at) ∙ ap (λ (g : ℕ → ℕ). g c) (play_law p order ord).counts in
    record {
      inside = lt;
      below = let b = due.below in omega arith;
      sourced = subst (λ (n : ℕ). Sourced p.edges (counts nought order) c (n + 1)) e
          (sourced_more p.edges f (counts nought order) c (k.count + 1) le due.sourced);
    }

pub with_locals : (p : Plan) (n : ℕ) (order : List ℕ) (f : ℕ → ℕ) (c : ℕ) (k a : Core) → IsReplayOrder p order →
    ((i : ℕ) → f i ≤ counts nought order i) →
    c < length p.totals → core_at (played p order) c ≡ k → IsAhead p f c n k a → WithLocals p c order a
with_locals p zero order f c k a ord le lt at ah =
    record { longer = order; ordered = ord; core = at ∙ ah; others = λ i ne. refl; more = λ i. omega arith }
with_locals p (suc n) order f c k a ord le lt at ah =
    let ready : Ready p (counts nought order) c = due_ready p order f c k ord le lt at ah.0 in
    let longer_ord : IsReplayOrder p (order ++ c ∷ []) = (one_more p order c ord).1 ready in
    let cs : counts nought (order ++ c ∷ []) ≡ bump (counts nought order) c = counts_on nought order (c ∷ []) in
    let up : (i : ℕ) → counts nought order i ≤ counts nought (order ++ c ∷ []) i = λ i. let e =
    ap (λ (g : ℕ → ℕ). g i) cs in
    let b = bump_more (counts nought order) c i in omega arith in
    let pl : played p (order ++ c ∷ []) ≡ place p (played p order) c = play_on p (start p) order (c ∷ []) in
    let local : need_at p (played p order) c ≡ Local = ap (λ (x : Core). need p.image x) at ∙ ah.1 in
    let inside : c < length (played p order).cores = let all = (play_law p order ord).all_cores in omega arith in
    let old : old_at p (played p order) c ≡ 0 = ap (λ (x : Need). old_for (use_of x) (played p order).words) local in
    let core_is : core_at (played p (order ++ c ∷ [])) c ≡ after p.image k 0 =
    ap (λ (x : Outcome). core_at x c) pl ∙ (place_law p (played p order) c).core inside
    ∙ ap (λ (o : ℕ). after p.image (core_at (played p order) c) o) old
    ∙ ap (λ (x : Core). after p.image x 0) at in
    let go = with_locals p n (order ++ c ∷ []) f c (after p.image k 0) a longer_ord
    (λ i. let q = le i in let u = up i in omega arith) lt core_is ah.2 in
    record {
      longer = go.longer;
      ordered = go.ordered;
      core = go.core;
      others = λ i ne. go.others i ne ∙ ap (λ (x : Outcome). core_at x i) pl
          ∙ (place_law p (played p order) c).other_cores i ne;
      more = λ i. let q = go.more i in let u = up i in omega arith;
    }

pub never_due_law : NeverDueLaw
never_due_law which r whole order c d n m a b valid dec ord ne sa sb clash =
    let p : Plan = plan_of which r in
    let f : ℕ → ℕ = sa.seen in
    let g : ℕ → ℕ = sb.seen in
    let le : (i : ℕ) → f i ≤ counts nought order i = sa.within in
    let ge : (i : ℕ) → g i ≤ counts nought order i = sb.within in
    let dc : IsDueAhead p f c n (core_at (played p order) c) a = sa.ahead in
    let dd : IsDueAhead p g d m (core_at (played p order) d) b = sb.ahead in
    let one : WithLocals p c order a =
    with_locals p n order f c (core_at (played p order) c) a ord le dc.inside refl dc.ahead in
    let at_d : core_at (played p one.longer) d ≡ core_at (played p order) d = one.others d (λ e. ne (sym e)) in
    let ge_one : (i : ℕ) → g i ≤ counts nought one.longer i = λ i. let q = ge i in let u = one.more i in omega arith in
    let two : WithLocals p d one.longer b =
    with_locals p m one.longer g d (core_at (played p order) d) b one.ordered ge_one dd.inside at_d dd.ahead in
    let at_c : core_at (played p two.longer) c ≡ a = two.others c ne ∙ one.core in
    let le_two : (i : ℕ) → f i ≤ counts nought two.longer i = λ i. let q = le i in let u = one.more i in let v =
    two.more i in omega arith in
    let ge_two : (i : ℕ) → g i ≤ counts nought two.longer i = λ i. let q = ge_one i in let v = two.more i in
    omega arith in
    let rc : Ready p (counts nought two.longer) c =
    due_ready p two.longer f c a two.ordered le_two dc.inside at_c dc.due in
    let rd : Ready p (counts nought two.longer) d =
    due_ready p two.longer g d b two.ordered ge_two dd.inside two.core dd.due in
    never_clash which r whole two.longer c d valid dec two.ordered ne rc rd
    (subst (λ (x : Core). Clash (use_of (need p.image x)) (use_at p (played p two.longer) d)) (sym at_c)
    (subst (λ (x : Core). Clash (use_of (need p.image a)) (use_of (need p.image x))) (sym two.core) clash))
