-- The low order is walked run by run.
use Rattle.std.proofs.Common.{inl, inr, ◌≡◌, ◌≢◌, ◌↔◌, ℕ, zero, suc, ◌+◌, ◌-◌, ◌<◌, ◌≤◌, List, [], ◌∷◌, ◌++◌, length}
use Rattle.std.proofs.Common.{refl, sym, ap, ◌∙◌, subst, arith, get_or, take, get_or-set_same, length-set}
use Rattle.std.specs.Prelude.{slice_index, slice_set, None, Some}
use Rattle.rtr_types.specs.declared.instr.Edge.{Edge}
use Rattle.rtr_types.specs.declared.instr.Instr.{Instr}
use Rattle.rtr_types.specs.declared.pairs.Which.{Which}
use Rattle.clock_core.specs.Counts.{no_counts}
use Rattle.clock_core.specs.Order.{Among, IsOrLeads}
use Rattle.clock_core.specs.Reach.{IsClock}
use Rattle.clock_core.proofs.Reach.{own_other}
use Rattle.clock_entries.specs.Laws.{IsAcyclic}
use Rattle.race_log.specs.declared.recording.Recording.{Recording}
use Rattle.race_log.specs.Sources.{log_edges}
use Rattle.race_log.specs.Validity.{Valid}
use Rattle.replay_core.specs.Plans.{Plan, plan_of}
use Rattle.replay_core.specs.Play.{instr}
use Rattle.replay_core.specs.Orders.{counts, nought, Full, lowest_ready}
use Rattle.replay_core.specs.Sources.{AreSources}
use Rattle.replay_core.specs.Tallies.{Tallied, IsNextInstr, IsRun, count_of}
use Rattle.replay_core.proofs.AwaitedEdges.{listed_nothing}
use Rattle.replay_core.proofs.Counts.{counts_on}
use Rattle.replay_core.proofs.LowCounts.{Counted, inside_plan, ready_there}
use Rattle.replay_core.proofs.LowestGoesOn.{gone_to}
use Rattle.replay_audit.specs.Clocks.{Kept, IsNoted, clock_at, clocks_of, number_of, numbered}
use Rattle.replay_audit.proofs.ClockNumbers.{all_later}
use Rattle.replay_audit.proofs.Logs.{Closed, closed_bump}
use Rattle.replay_audit.proofs.LowWalk.{Walking, low_whole, walking_on}
use Rattle.replay_audit.proofs.LowestAlone.{gone_more}
use Rattle.touch_judge.specs.Runs.{AreRuns, IsOrder, IsRunOf, after_runs, no_counts_of}
use Rattle.touch_judge.specs.declared.order.Run.{Run}

-- the core's count, where it has gone on
pub here_at : (p : Plan) (order : List ℕ) (t : Tallied) → Counted p order t → (c n : ℕ) →
    lowest_ready t.plan (count_of t.counts) ≡ Some c → count_of (gone_to t c n).counts c ≡ n
here_at p order t h c n some =
    let inside = inside_plan p order t h c some in
    let all = h.all in
    let plan = ap (λ (q : Plan). length q.totals) h.plan_is in
    get_or-set_same t.counts c n 0 (omega arith)

-- the walk has come to the end of the order, and what leads to its instructions is in it
pub record HasCome (which : Which) (r : Recording) (order : List ℕ) (t : Tallied) (k : Kept) : Type 0 where
  pub walking : Walking which r order t k
  pub closed : Closed (log_edges which r) (counts nought order)

-- one place more
come_on : (which : Which) (r : Recording) → Valid r → (order : List ℕ) (t u : Tallied) (k new : Kept) (c : ℕ) →
    HasCome which r order t k → lowest_ready t.plan (count_of t.counts) ≡ Some c → (at : Instr) →
    at ≡ instr c (count_of t.counts c + 1) → u.plan ≡ t.plan →
    u.counts ≡ slice_set t.counts c (count_of t.counts c + 1) → (sources : List ℕ) →
    AreSources t.plan.edges (instr c (count_of t.counts c + 1)) sources → (cores : ℕ) →
    cores ≡ length t.plan.totals → IsNoted k at sources cores new → HasCome which r (order ++ c ∷ []) u new
come_on which r valid order t u k new c h some at at_is plan counts_is sources are cores all noted = record {
  walking = walking_on valid h.walking some at_is u sources cores new plan counts_is are all noted;
  closed = subst (λ (g : ℕ → ℕ). Closed (log_edges which r) g) (sym (counts_on nought order (c ∷ [])))
      (closed_bump (plan_of which r) (counts nought order) c
      (ready_there (plan_of which r) order t h.walking.counted c some) h.closed);
}

module _ {which : Which} {r : Recording} (valid : Valid r) {order : List ℕ} {t : Tallied} {k new : Kept}
    (h : HasCome which r order t k) {c n : ℕ} (some : lowest_ready t.plan (count_of t.counts) ≡ Some c)
    (run : IsRun t c n) {at : Instr} {sources : List ℕ} (next : IsNextInstr t c at sources) {cores : ℕ}
    (all : cores ≡ length t.plan.totals) (noted : IsNoted k at sources cores new) where
  first : HasCome which r (order ++ c ∷ []) (gone_to t c (count_of t.counts c + 1)) new
  first = come_on which r valid order t (gone_to t c (count_of t.counts c + 1)) k new c h some at next.at refl refl
      sources next.sources cores all noted

  -- the instructions behind it have no sources
  come_to : (m : ℕ) → (count_of t.counts c + 1) + m ≤ n →
      (o : List ℕ) × HasCome which r o (gone_to t c ((count_of t.counts c + 1) + m)) new
  come_to zero le = (
    order ++ c ∷ [],
    let e : count_of t.counts c + 1 ≡ (count_of t.counts c + 1) + 0 = omega arith in
        subst (λ (j : ℕ). HasCome which r (order ++ c ∷ []) (gone_to t c j) new) e first,
  )
  come_to (suc m) le =
      let j : ℕ = (count_of t.counts c + 1) + m in
      let before = come_to m (omega arith) in
      let here = here_at (plan_of which r) order t h.walking.counted c j some in
      let e : j + 1 ≡ (count_of t.counts c + 1) + suc m = omega arith in
      let free : AreSources t.plan.edges (instr c (count_of (gone_to t c j).counts c + 1)) no_counts =
      subst (λ (i : ℕ). AreSources t.plan.edges (instr c (i + 1)) no_counts) (sym here)
      (run.free (j + 1) (omega arith) (omega arith)) in (
        before.0 ++ c ∷ [],
        subst (λ (i : ℕ). HasCome which r (before.0 ++ c ∷ []) (gone_to t c i) new) e
            (come_on which r valid before.0 (gone_to t c j) (gone_to t c (j + 1)) new new c before.1
            (run.lowest j (omega arith) (omega arith)) (instr c (count_of (gone_to t c j).counts c + 1)) refl refl
            (gone_more t c j (j + 1) (ap (λ (i : ℕ). i + 1) (sym here))) no_counts free cores all
            (record { kept = inl (listed_nothing cores, refl) })),
      )

  pub come_run : (o : List ℕ) × HasCome which r o (gone_to t c n) new
  come_run =
      let more = run.more in
      let e : (count_of t.counts c + 1) + (n - (count_of t.counts c + 1)) ≡ n = omega arith in
      subst (λ (j : ℕ). (o : List ℕ) × HasCome which r o (gone_to t c j) new) e
      (come_to (n - (count_of t.counts c + 1)) (omega arith))

  core_inside : c < r.params.cores
  core_inside =
      let lt = (ready_there (plan_of which r) order t h.walking.counted c some).inside in
      let e = valid.each_core in
      omega arith

  -- all that is kept of the core is of instructions up to the first
  all_kept : (m : ℕ) → count_of t.counts c < m → number_of new c m ≡ length (clocks_of new c)
  all_kept m lt =
      let here : counts nought (order ++ c ∷ []) c ≡ count_of t.counts c + 1 =
      sym (ap (λ (g : ℕ → ℕ). g c) first.walking.counted.tally)
      ∙ here_at (plan_of which r) order t h.walking.counted c (count_of t.counts c + 1) some in
      all_later (clocks_of new c) c (count_of t.counts c + 1) m
      (ap (number_of new c) (sym here) ∙ first.walking.clocked.last c core_inside) (omega arith)

  -- so the last clock is that of each instruction of the run, but for their own core
  pub run_clock : IsAcyclic (log_edges which r) → (m : ℕ) → count_of t.counts c < m → m ≤ n → (x : Instr) →
      1 ≤ x.count → x.core ≢ c →
      (x.count ≤ slice_index (numbered new c (length (clocks_of new c))) x.core)
      ↔ IsOrLeads (Among (log_edges which r)) x (instr c m)
  run_clock acyclic m from to x pos other =
      let end = come_run in
      let here : counts nought end.0 c ≡ n =
      sym (ap (λ (g : ℕ → ℕ). g c) end.1.walking.counted.tally)
      ∙ here_at (plan_of which r) order t h.walking.counted c n some in
      let exact : IsClock (Among (log_edges which r)) (instr c m) (clock_at new (instr c m)) =
      end.1.walking.clocked.exact acyclic c m core_inside (omega arith) (omega arith) in
      let same : clock_at new (instr c m) x.core
      ≡ slice_index (numbered new c (length (clocks_of new c))) x.core =
      own_other (instr c m) (λ (j : ℕ). slice_index (numbered new c (number_of new c m)) j) x.core other
      ∙ ap (λ (i : ℕ). slice_index (numbered new c i) x.core) (all_kept m from) in
      let by = exact x pos in
      (λ le. by.0 (omega arith), λ leads. let le = by.1 leads in omega arith)

  -- it is a run from the tally's counts on
  pub is_run : (clock : List ℕ) → clock ≡ numbered new c (length (clocks_of new c)) →
      IsRunOf (log_edges which r) t.counts (record { core = c; until = n; clock = clock })
  is_run clock clock_is = subst
      (λ (l : List ℕ). IsRunOf (log_edges which r) t.counts (record { core = c; until = n; clock = l })) (sym clock_is)
      (record {
        core =
            let lt = inside_plan (plan_of which r) order t h.walking.counted c some in
            let all = h.walking.counted.all in
            let plan = ap (λ (q : Plan). length q.totals) h.walking.counted.plan_is in
            omega arith;
        more = run.more;
        closed = subst (λ (g : ℕ → ℕ). Closed (log_edges which r) g) (sym h.walking.counted.tally) h.closed;
        clock = λ acyclic m x from to pos other. run_clock acyclic m from to x pos other;
      })

-- ---- one run more

pub runs_on : (edges : List Edge) (counts : List ℕ) (runs : List Run) (run : Run) → AreRuns edges counts runs →
    IsRunOf edges (after_runs counts runs) run → AreRuns edges counts (runs ++ run ∷ [])
runs_on edges counts [] run are is = (is, tt)
runs_on edges counts (first ∷ runs) run are is =
    (are.0, runs_on edges (slice_set counts first.core first.until) runs run are.1 is)

pub after_on : (counts : List ℕ) (runs : List Run) (run : Run) →
    after_runs counts (runs ++ run ∷ []) ≡ slice_set (after_runs counts runs) run.core run.until
after_on counts [] run = refl
after_on counts (first ∷ runs) run = after_on (slice_set counts first.core first.until) runs run

pub after_all : (counts : List ℕ) (runs : List Run) → length (after_runs counts runs) ≡ length counts
after_all counts [] = refl
after_all counts (run ∷ runs) =
    after_all (slice_set counts run.core run.until) runs ∙ length-set counts run.core run.until

-- the run at a place
pub run_at : (edges : List Edge) (counts : List ℕ) (runs : List Run) (k : ℕ) (d : Run) → AreRuns edges counts runs →
    k < length runs → IsRunOf edges (after_runs counts (take k runs)) (get_or runs k d)
run_at edges counts [] k d are lt = absurd (omega arith)
run_at edges counts (run ∷ runs) zero d are lt = are.0
run_at edges counts (run ∷ runs) (suc k) d are lt =
    run_at edges (slice_set counts run.core run.until) runs k d are.1 (omega arith)

-- ---- the end

pub order_is : {which : Which} {r : Recording} {order : List ℕ} {t : Tallied} {k : Kept} {runs : List Run} → Valid r →
    Walking which r order t k → lowest_ready t.plan (count_of t.counts) ≡ None → Full t.plan (count_of t.counts) →
    t.counts ≡ after_runs (no_counts_of r) runs → AreRuns (log_edges which r) (no_counts_of r) runs →
    IsOrder which r runs
order_is {which} {r} {order} {t} {k} {runs} valid w none full counts_is are = record {
  valid = valid;
  whole = (low_whole valid w none).0 full;
  runs_are = are;
  ends = λ c lt.
      let e = ap (λ (p : Plan). length p.totals) w.counted.plan_is in
      let f = ap (λ (p : Plan). slice_index p.totals c) w.counted.plan_is in
      let g = ap (λ (l : List ℕ). slice_index l c) counts_is in
      let all = full.each c (omega arith) in
      omega arith;
}
