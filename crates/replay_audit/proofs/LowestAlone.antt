-- The lowest core that is ready goes on alone.
use Rattle.std.proofs.Common.{◌≡◌, ℕ, zero, suc, ◌+◌, ◌<◌, ◌≤◌, List, [], ◌∷◌, length}
use Rattle.std.proofs.Common.{sym, ap, ◌∙◌, subst, arith, length-set, get_or-set_same, get_or-set_other}
use Rattle.std.specs.Prelude.{slice_index, slice_set, Some}
use Rattle.std.proofs.lemmas.List.{set-get_or, set-set}
use native.Mathlib.Decide.{ℕ_discrete}
use Rattle.replay_core.specs.Plans.{Plan}
use Rattle.replay_core.specs.Orders.{lowest_ready}
use Rattle.replay_core.specs.Tallies.{Tallied, IsGoneOn, IsRun, count_of}
use Rattle.replay_core.proofs.Low.{left}
use Rattle.replay_core.proofs.LowestGoesOn.{gone_to}
use Rattle.replay_core.proofs.LowCounts.{Counted, inside_plan}

-- where a core hasn't gone on the tally is as it was
pub gone_same : (t : Tallied) (c k : ℕ) → k ≡ count_of t.counts c → t ≡ gone_to t c k
gone_same t c k is = ap (λ (l : List ℕ). with_counts l)
    (sym (set-get_or t.counts c 0) ∙ ap (λ (n : ℕ). slice_set t.counts c n) (sym is))
  where
    with_counts : List ℕ → Tallied
    with_counts l = record { plan = t.plan; counts = l }

-- and so it is by another name
pub gone_is : {t u : Tallied} {c k n : ℕ} → IsGoneOn t c n u → k ≡ n → gone_to t c k ≡ u
gone_is {t} {u} {c} {k} {n} g is =
    ap (λ (m : ℕ). gone_to t c m) is
    ∙ ap (λ (l : List ℕ). with_plan t.plan l) (sym g.counts) ∙ ap (λ (p : Plan). with_plan p u.counts) (sym g.plan)
  where
    with_plan : Plan → List ℕ → Tallied
    with_plan p l = record { plan = p; counts = l }

-- one place more
pub gone_more : (t : Tallied) (c k m : ℕ) → m ≡ count_of (gone_to t c k).counts c + 1 →
    (gone_to t c m).counts ≡ slice_set (gone_to t c k).counts c (count_of (gone_to t c k).counts c + 1)
gone_more t c k m is = ap (λ (n : ℕ). slice_set t.counts c n) is ∙ sym (set-set t.counts c k _)

-- ---- fewer places are left

left_most : (ts : List ℕ) (f g : ℕ → ℕ) (i : ℕ) → ((j : ℕ) → f j ≤ g j) → left ts g i ≤ left ts f i
left_most [] f g i more = omega arith
left_most (t ∷ ts) f g i more = let a = left_most ts f g (i + 1) more in let b = more i in omega arith

left_less : (ts : List ℕ) (f g : ℕ → ℕ) (i k c : ℕ) → c ≡ i + k → k < length ts → ((j : ℕ) → f j ≤ g j) →
    f c < g c → g c ≤ slice_index ts k → left ts g i < left ts f i
left_less [] f g i k c e lt more up most = absurd (omega arith)
left_less (t ∷ ts) f g i zero c e lt more up most =
    let q : c ≡ i = omega arith in
    let a = left_most ts f g (i + 1) more in
    let b = ap f q in
    let d = ap g q in
    omega arith
left_less (t ∷ ts) f g i (suc k) c e lt more up most =
    let a = left_less ts f g (i + 1) k c (omega arith) (omega arith) more up most in
    let b = more i in
    omega arith

pub run_smaller : (t u : Tallied) (c n : ℕ) → c < length t.plan.totals → IsRun t c n → IsGoneOn t c n u →
    left u.plan.totals (count_of u.counts) 0 < left t.plan.totals (count_of t.counts) 0
run_smaller t u c n inside run g =
    subst (λ (p : Plan). left p.totals (count_of u.counts) 0 < left t.plan.totals (count_of t.counts) 0) (sym g.plan)
    (left_less t.plan.totals (count_of t.counts) (count_of u.counts) 0 c c (omega arith) inside
    (λ j. more j (ℕ_discrete j c)) (let a = run.more in let h = g.here in omega arith)
    (let w = run.within in let h = g.here in omega arith))
  where
    more : (j : ℕ) → Dec (j ≡ c) → count_of t.counts j ≤ count_of u.counts j
    more j (yes e) = subst (λ (i : ℕ). count_of t.counts i ≤ count_of u.counts i) (sym e)
        (let a = run.more in let h = g.here in omega arith)
    more j (no ne) =
        let q = ap (λ (l : List ℕ). count_of l j) g.counts ∙ get_or-set_other t.counts c j n 0 ne in omega arith

-- ---- the core's count, where it has gone on

pub gone_here : {p : Plan} {order : List ℕ} (t : Tallied) (c k : ℕ) → Counted p order (gone_to t c k) →
    lowest_ready t.plan (count_of (gone_to t c k).counts) ≡ Some c → count_of (gone_to t c k).counts c ≡ k
gone_here {p} {order} t c k counted some =
    let inside = inside_plan p order (gone_to t c k) counted c some in
    let all = counted.all in
    let same = length-set t.counts c k in
    let plan = ap (λ (q : Plan). length q.totals) counted.plan_is in
    get_or-set_same t.counts c k 0 (omega arith)
