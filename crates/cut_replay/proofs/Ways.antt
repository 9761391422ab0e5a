-- A replay on the way to a closed cut.
use Rattle.std.proofs.Common.{inl, inr, ◌≡◌, ◌⊎◌, ℕ, ◌+◌, ◌<◌, ◌≤◌, ◌↔◌, Bool, true, false, IsTrue}
use Rattle.std.proofs.Common.{List, [], ◌∷◌, ◌++◌, length, refl, sym, ap, ◌∙◌, subst, arith}
use Rattle.std.specs.Prelude.{slice_index, Option}
use Rattle.std.specs.List.{Contains}
use Rattle.std.proofs.lemmas.Bool.{cases_lt}
use Rattle.std.proofs.Math.Nat.{eq-zero-or-pos}
use Rattle.rtr_types.specs.declared.TheConstants.{CORES_MAX}
use Rattle.rtr_types.specs.declared.access.Access.{Access}
use Rattle.rtr_types.specs.declared.cut.Cut.{Cut}
use Rattle.rtr_types.specs.declared.instr.Instr.{Instr}
use Rattle.rtr_types.specs.declared.pairs.Which.{Which}
use Rattle.clock_core.specs.Order.{Among, IsOrLeads}
use Rattle.clock_core.specs.Reach.{IsClock}
use Rattle.clock_core.proofs.EdgeLists.{contains_among}
use Rattle.clock_core.proofs.Paths.{one}
use Rattle.rv_core.specs.declared.outcome.Outcome.{Outcome}
use Rattle.rv_core.specs.Steps.{is_done}
use Rattle.race_log.specs.declared.recording.Recording.{Recording}
use Rattle.race_log.specs.Sources.{EdgeWithin, log_edges}
use Rattle.race_log.specs.Validity.{Valid}
use Rattle.replay_core.specs.declared.answers.Advanced.{Advanced}
use Rattle.replay_core.specs.declared.answers.Advanced.TheVariants as advanced
use Rattle.replay_core.specs.Plans.{Plan, plan_of}
use Rattle.replay_core.specs.Play.{instr, need_at, place, played, start}
use Rattle.replay_core.specs.Orders.{bump, counts, counts_in, nought, Ready, IsReplayOrder, is_ready}
use Rattle.replay_core.specs.Answers.{Advances, Retires, Stays, UnderWay}
use Rattle.replay_core.proofs.Counts.{bump_same, bump_else, counts_on}
use Rattle.replay_core.proofs.Lists.{one_more, play_on, plays_on}
use Rattle.replay_core.proofs.Low.{left, left_step}
use Rattle.replay_core.proofs.Places.{play_law}
use Rattle.replay_core.proofs.Ready.{ready_true, ready_is, within_sourced}
use native.Mathlib.Decide.{ℕ_discrete}
use Rattle.replay_audit.specs.Audits.{IsInstrOf}
use Rattle.replay_audit.specs.Determinate.{Decides}
use Rattle.replay_audit.proofs.OrdersAgree.{every_order_law, tame_play, tame_start}
use Rattle.replay_audit.proofs.Logs.{Closed, ready_before}
use Rattle.cut_replay.specs.ClosedCuts.{count_in, IsClosed}
use Rattle.cut_replay.specs.CutStates.{Reaches, IsStateAt}
use Rattle.cut_replay.specs.Dues.{IsDue, IsOnTheWay, IsWaitedFor, NoneIsDue}
use Rattle.cut_replay.proofs.Cuts.{has_within}
use Rattle.cut_replay.proofs.Orders.{all_there, plays_to}

pub way_start : (which : Which) (r : Recording) (cut : Cut) (u : UnderWay) → IsClosed which r cut →
    u.plan ≡ plan_of which r →
    u.state ≡ start (plan_of which r) → Valid r → IsOnTheWay which r cut u
way_start which r cut u closed plan_is state_is valid = record {
  valid = valid;
  closed = closed;
  plan_is = plan_is;
  order = [];
  ordered = tt;
  state_is = state_is;
  within = λ core. omega arith;
}

module _ {which : Which} {r : Recording} {cut : Cut} {u : UnderWay} (way : IsOnTheWay which r cut u) where
  valid : Valid r
  valid = way.valid

  abbrev p : Plan
  p = plan_of which r

  abbrev f : ℕ → ℕ
  f = counts nought way.order

  pub counts_are : counts_in u.state ≡ counts nought way.order
  counts_are = ap (λ (s : Outcome). counts_in s) way.state_is ∙ (play_law p way.order way.ordered).counts

  count_at : (c : ℕ) → counts_in u.state c ≡ counts nought way.order c
  count_at c = ap (λ (g : ℕ → ℕ). g c) counts_are

  all_cores : length u.plan.totals ≡ length r.totals
  all_cores = ap (λ (q : Plan). length q.totals) way.plan_is

  closed_so_far : Closed (log_edges which r) (counts nought way.order)
  closed_so_far = (tame_play p (start p) nought way.order (tame_start which r valid) way.ordered).closed

  in_total : (c : ℕ) → c < length u.plan.totals → count_in cut c ≤ slice_index r.totals c
  in_total c lt = way.closed.is_cut.most c (let a = all_cores in let b = valid.each_core in omega arith)

  pub few_cores : (c : ℕ) → c < length u.plan.totals → c < CORES_MAX
  few_cores c lt = let a = all_cores in let b = valid.each_core in let m = valid.params.cores in omega arith

  -- ---- the next instruction of a core

  module _ (c : ℕ) (inside : c < length u.plan.totals) (count : ℕ) (count_is : count ≡ counts_in u.state c) where
    pub next_node : count < count_in cut c → IsInstrOf r (instr c (count + 1))
    next_node lt = record {
      core = let a = all_cores in omega arith;
      some = omega arith;
      most = let le = in_total c inside in omega arith;
    }

    module _ (below : count < count_in cut c) (clock : List ℕ)
        (is : IsClock (Among (log_edges which r)) (instr c (count + 1)) (λ i. slice_index clock i)) where
      abbrev next : Instr
      next = instr c (count + 1)

      here : count ≡ counts nought way.order c
      here = count_is ∙ count_at c

      source_there : IsWaitedFor u c clock → (from : Instr) →
          Contains (log_edges which r) (record { from = from; to = instr c (count + 1) }) →
          from.count ≤ counts nought way.order from.core
      source_there waited from there =
          let w : EdgeWithin r from next = has_within which r from next valid there in
          let leads : IsOrLeads (Among (log_edges which r)) from next =
          inr (one (Among (log_edges which r)) from next (inr (contains_among (log_edges which r) from next there))) in
          let known = (is from w.some_source).1 leads in
          let le = waited from.core
          (let a = all_cores in let b = valid.each_core in let s = w.pair.source in omega arith) w.pair.differ in
          let same = count_at from.core in
          omega arith

      waited_ready : IsWaitedFor u c clock → Ready (plan_of which r) (counts nought way.order) c
      waited_ready waited = record {
        inside = let a = all_cores in omega arith;
        below = let le = in_total c inside in let e = here in omega arith;
        sourced = within_sourced p.edges f c (f c + 1) (λ from there. source_there waited from
            (subst (λ (n : ℕ). Contains p.edges (record { from = from; to = instr c (n + 1) })) (sym here) there));
      }

      ready_waited : Ready (plan_of which r) (counts nought way.order) c → IsWaitedFor u c clock
      ready_waited ready of lt ne = by (eq-zero-or-pos (slice_index clock of))
        where
          leads : IsOrLeads (Among (log_edges which r)) (instr of (slice_index clock of)) (instr c (count + 1)) →
              slice_index clock of ≤ counts_in u.state of
          leads (inl e) = absurd (ne (ap (λ (x : Instr). x.core) e))
          leads (inr before) =
              let le = ready_before p f c (instr of (slice_index clock of)) next closed_so_far ready refl
              (let e = here in omega arith) before in
              let same = count_at of in
              omega arith

          by : (slice_index clock of ≡ 0) ⊎ (1 ≤ slice_index clock of) → slice_index clock of ≤ counts_in u.state of
          by (inl none) = omega arith
          by (inr some) = leads ((is (instr of (slice_index clock of)) some).0 (omega arith))

      due_ready : IsDue cut u c → Ready (plan_of which r) (counts nought way.order) c
      due_ready due = subst (λ (g : ℕ → ℕ). Ready p g c) counts_are
          (subst (λ (q : Plan). Ready q (counts_in u.state) c) way.plan_is
          (ready_true u.plan (counts_in u.state) c due.ready))

      ready_due : Ready (plan_of which r) (counts nought way.order) c → IsDue cut u c
      ready_due ready = record {
        inside = inside;
        below = omega arith;
        ready = ready_is u.plan (counts_in u.state) c
            (subst (λ (q : Plan). Ready q (counts_in u.state) c) (sym way.plan_is)
            (subst (λ (g : ℕ → ℕ). Ready p g c) (sym counts_are) ready));
      }

      -- the core is due exactly where the others have come as far as its next instruction's clock
      pub due_is : (b : Bool) → IsTrue b ↔ IsWaitedFor u c clock → IsTrue b ↔ IsDue cut u c
      due_is b h = (λ t. ready_due (waited_ready (h.0 t)), λ due. h.1 (ready_waited (due_ready due)))

  -- ---- a core goes on

  module _ (whole : List ℕ) (decides : Decides (plan_of which r) whole) (c : ℕ) (due : IsDue cut u c) where
    next_ready : Ready (plan_of which r) (counts nought way.order) c
    next_ready = subst (λ (g : ℕ → ℕ). Ready p g c) counts_are
        (subst (λ (q : Plan). Ready q (counts_in u.state) c) way.plan_is
        (ready_true u.plan (counts_in u.state) c due.ready))

    longer : IsReplayOrder (plan_of which r) (way.order ++ c ∷ [])
    longer = (one_more p way.order c way.ordered).1 next_ready

    goes_on : is_done (need_at (plan_of which r) (played (plan_of which r) way.order) c) ≡ false
    goes_on = ((plays_on p (start p) way.order (c ∷ [])).0
        (every_order_law which r whole (way.order ++ c ∷ []) valid decides longer).plays).1.0

    within_on : (i : ℕ) → counts nought (way.order ++ c ∷ []) i ≤ count_in cut i
    within_on i = elim (ℕ_discrete i c) [
      | yes e ↦
          let on : counts nought (way.order ++ c ∷ []) i ≡ bump f c i =
          ap (λ (g : ℕ → ℕ). g i) (counts_on nought way.order (c ∷ [])) in
          let more = bump_same f c i e in
          let s : f i ≡ f c = ap f e in
          let t : count_in cut i ≡ count_in cut c = ap (λ (k : ℕ). count_in cut k) e in
          let lt = due.below in
          let same = count_at c in
          omega arith
      | no ne ↦
          let on : counts nought (way.order ++ c ∷ []) i ≡ bump f c i =
          ap (λ (g : ℕ → ℕ). g i) (counts_on nought way.order (c ∷ [])) in
          let same = bump_else f c i ne in
          let le = way.within i in
          omega arith
    ]

    -- room was made
    module _ (v : UnderWay) (same_plan : v.plan ≡ u.plan) (same_state : v.state ≡ u.state) where
      pub ready_with_room : is_ready v.plan (counts_in v.state) c ≡ true
      ready_with_room = ap (λ (q : Plan). is_ready q (counts_in v.state) c) same_plan
          ∙ ap (λ (s : Outcome). is_ready u.plan (counts_in s) c) same_state ∙ due.ready

      -- the call's answer, at what the order comes to
      advances : (answer : Advanced) (t : Outcome) → Advances v.plan v.state c answer t →
          Advances (plan_of which r) (played (plan_of which r) way.order) c answer t
      advances answer t h =
          subst (λ (s : Outcome). Advances p s c answer t) (same_state ∙ way.state_is)
          (subst (λ (q : Plan). Advances q v.state c answer t) (same_plan ∙ way.plan_is) h)

      -- it isn't short
      pub never_short : (t : Outcome) → Stays v.plan v.state c t → ⊥
      never_short t h =
          let s : Stays p (played p way.order) c t = advances advanced.Short t h in
          let done = s.done in
          let go = goes_on in
          cc

      module _ (w : UnderWay) (kept : w.plan ≡ v.plan) (access : Option Access)
          (h : Retires v.plan v.state c access w.state) where
        placed : w.state ≡ place (plan_of which r) (played (plan_of which r) way.order) c
        placed = let retires : Retires p (played p way.order) c access w.state =
            advances (advanced.Retired access) w.state h in retires.state

        state_on : w.state ≡ played (plan_of which r) (way.order ++ c ∷ [])
        state_on = placed ∙ sym (play_on p (start p) way.order (c ∷ []))

        pub way_on : IsOnTheWay which r cut w
        way_on = record {
          valid = way.valid;
          closed = way.closed;
          plan_is = kept ∙ same_plan ∙ way.plan_is;
          order = way.order ++ c ∷ [];
          ordered = longer;
          state_is = state_on;
          within = within_on;
        }

        pub inside_on : c < length w.plan.totals
        inside_on = subst (λ (q : Plan). c < length q.totals) (sym (kept ∙ same_plan)) due.inside

        -- fewer instructions are left
        pub fewer : left w.plan.totals (counts_in w.state) 0 < left u.plan.totals (counts_in u.state) 0
        fewer =
            let there : counts_in w.state ≡ bump f c = ap (λ (s : Outcome). counts_in s) state_on
            ∙ (play_law p (way.order ++ c ∷ []) longer).counts ∙ counts_on nought way.order (c ∷ []) in
            let step = left_step p.totals f 0 c c (omega arith) next_ready.inside next_ready.below in
            let one_less = ap (λ (g : ℕ → ℕ). left p.totals g 0) there in
            let before = ap (λ (g : ℕ → ℕ). left p.totals g 0) counts_are in
            let plan_after = ap (λ (q : Plan). left q.totals (counts_in w.state) 0) (kept ∙ same_plan ∙ way.plan_is) in
            let plan_before = ap (λ (q : Plan). left q.totals (counts_in u.state) 0) way.plan_is in
            omega arith

  -- ---- no core does

  module _ (whole : List ℕ) (decides : Decides (plan_of which r) whole) (none : NoneIsDue cut u) where
    not_ready : (c : ℕ) → counts nought way.order c < count_in cut c →
        Ready (plan_of which r) (counts nought way.order) c → ⊥
    not_ready c lt ready = none c (record {
      inside = let i = ready.inside in let a = all_cores in omega arith;
      below = let e = count_at c in omega arith;
      ready = ready_is u.plan (counts_in u.state) c
          (subst (λ (q : Plan). Ready q (counts_in u.state) c) (sym way.plan_is)
          (subst (λ (g : ℕ → ℕ). Ready p g c) (sym counts_are) ready));
    })

    cut_there : (c : ℕ) → (c < length r.totals) ⊎ (length r.totals ≤ c) → count_in cut c ≤ counts nought way.order c
    cut_there c (inl lt) = all_there p cut f (λ x y has le. way.closed.sources x y has le) not_ready whole
        decides.ordered decides.whole
        (λ i below. in_total i (let a = all_cores in omega arith)) c lt
    cut_there c (inr past) = let z = way.closed.is_cut.rest c (let e = valid.each_core in omega arith) in omega arith

    reaches : Reaches which r cut way.order
    reaches = record {
      ordered = way.ordered;
      counts_are = λ c. let le = cut_there c (cases_lt c (length r.totals)) in let most = way.within c in omega arith;
    }

    pub state_at : (outcome : Outcome) → outcome ≡ u.state → IsStateAt which r cut outcome
    state_at outcome is = record {
      some_order = (way.order, reaches);
      every_order = λ order h. plays_to which r valid whole decides cut way.order order outcome reaches
          (is ∙ way.state_is) h;
    }
