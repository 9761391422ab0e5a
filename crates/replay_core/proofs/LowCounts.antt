-- Counts along the low order.
use Rattle.std.proofs.Common.{◌≡◌, ℕ, ◌+◌, ◌<◌, ◌≤◌, true, false, List, [], ◌∷◌, ◌++◌, length, get_or, replicate, sym}
use Rattle.std.proofs.Common.{ap, ◌∙◌, subst, arith}
use Rattle.std.proofs.Common.{length-set, get_or-set_same, get_or-set_other}
use Rattle.std.specs.Prelude.{slice_index, slice_set, Option, Some, None}
use Rattle.std.proofs.Math.Path.{fun_ext}
use Rattle.std.proofs.lemmas.List.{length-replicate, get_or_default}
use native.Mathlib.Decide.{ℕ_discrete}
use Rattle.rtr_types.specs.declared.instr.Edge.{Edge}
use Rattle.rtr_types.specs.declared.pairs.Which.{Which}
use Rattle.rtr_types.proofs.Ranges.{zero_at}
use Rattle.race_log.specs.declared.recording.Recording.{Recording}
use Rattle.race_log.specs.Sources.{log_edges}
use Rattle.race_log.specs.Validity.{Valid}
use Rattle.replay_core.specs.Plans.{Plan, plan_of}
use Rattle.replay_core.specs.Play.{instr}
use Rattle.replay_core.specs.Orders.{bump, counts, nought, Ready, Full, IsWhole, is_sourced, lowest_ready, low_order}
use Rattle.replay_core.specs.Laws.{LowFront}
use Rattle.replay_core.proofs.Counts.{bump_here, bump_else, counts_on}
use Rattle.replay_core.proofs.Fronts.{front_more, low_end}
use Rattle.replay_core.proofs.Low.{IsLowest, lowest_is, left, left_step}
use Rattle.replay_core.proofs.Sources.{apart, unmet, all_met}
use Rattle.replay_core.specs.Sources.{AreSources, sources_in}
use Rattle.replay_core.specs.Tallies.{Tallied, AreWanted, IsTally, count_of, wanted_at}
use Rattle.clock_core.proofs.EdgeLists.{among_contains, contains_among}

pub counts_start : (which : Which) (r : Recording) (plan : Plan) (list : List ℕ) (wanted : List (Option (List ℕ))) →
    Valid r → plan ≡ plan_of which r →
    list ≡ replicate r.params.cores 0 →
    AreWanted (log_edges which r) r.params.cores wanted → IsTally which r plan list wanted
counts_start which r plan list wanted valid plan_is is w = record {
  valid = valid;
  sources_is = plan_is;
  all_counts = ap (λ (l : List ℕ). length l) is ∙ length-replicate r.params.cores 0;
  all_wanted = w.all;
  within = λ c. let e = none c in omega arith;
  each = λ c lt. let n = none c in let e : 1 ≡ count_of list c + 1 = omega arith in
      subst (λ (k : ℕ). AreSources (log_edges which r) (instr c k) (wanted_at wanted c)) e (w.each c lt);
}
  where
    none : (c : ℕ) → count_of list c ≡ 0
    none c = ap (λ (l : List ℕ). count_of l c) is ∙ zero_at r.params.cores c

module _ (which : Which) (r : Recording) (plan : Plan) (list : List ℕ) (wanted : List (Option (List ℕ)))
    (h : IsTally which r plan list wanted) (c count : ℕ)
    (inside : c < length r.totals) (below : count_of list c < slice_index r.totals c)
    (count_is : count ≡ count_of list c + 1) where
  within_list : c < length list
  within_list = let a = h.all_counts in let e = h.valid.each_core in omega arith

  pub counts_step : (next : Plan) (sources : Option (List ℕ)) → next ≡ plan →
      AreSources plan.edges (instr c (count + 1)) (sources_in sources) →
      IsTally which r next (slice_set list c count) (slice_set wanted c sources)
  counts_step next sources kept new_by_plan = record {
    valid = h.valid;
    sources_is = kept ∙ h.sources_is;
    all_counts = length-set list c count ∙ h.all_counts;
    all_wanted = length-set wanted c sources ∙ h.all_wanted;
    within = λ i. within i (ℕ_discrete i c);
    each = λ i lt. each i lt (ℕ_discrete i c);
  }
    where
      new : AreSources (log_edges which r) (instr c (count + 1)) (sources_in sources)
      new = subst (λ (q : Plan). AreSources q.edges (instr c (count + 1)) (sources_in sources)) h.sources_is new_by_plan

      here : count_of (slice_set list c count) c ≡ count
      here = get_or-set_same list c count 0 within_list

      within : (i : ℕ) → Dec (i ≡ c) → count_of (slice_set list c count) i ≤ slice_index r.totals i
      within i (yes e) = subst (λ (x : ℕ). count_of (slice_set list c count) x ≤ slice_index r.totals x) (sym e)
          (omega (arith, here))
      within i (no ne) = let e : count_of (slice_set list c count) i ≡ count_of list i =
          get_or-set_other list c i count 0 ne in let w = h.within i in
          omega arith

      each : (i : ℕ) → i < r.params.cores → Dec (i ≡ c) →
          AreSources (log_edges which r) (instr i (count_of (slice_set list c count) i + 1)) (wanted_at
          (slice_set wanted c sources) i)
      each i lt (yes e) =
          let there : wanted_at (slice_set wanted c sources) c ≡ sources_in sources =
          ap sources_in (get_or-set_same wanted c sources None
          (let a = h.all_wanted in let q = h.valid.each_core in omega arith)) in
          subst (λ (x : ℕ). AreSources (log_edges which r) (instr x (count_of (slice_set list c count) x + 1))
          (wanted_at (slice_set wanted c sources) x))
          (sym e)
          (subst (λ (l : List ℕ). AreSources (log_edges which r) (instr c (count_of (slice_set list c count) c + 1)) l)
          (sym there)
          (subst (λ (n : ℕ). AreSources (log_edges which r) (instr c (n + 1)) (sources_in sources)) (sym here) new))
      each i lt (no ne) =
          subst (λ (l : List ℕ). AreSources (log_edges which r) (instr i (count_of (slice_set list c count) i + 1)) l)
          (sym (ap sources_in (get_or-set_other wanted c i sources None ne)))
          (subst (λ (n : ℕ). AreSources (log_edges which r) (instr i (n + 1)) (wanted_at wanted i))
          (sym (get_or-set_other list c i count 0 ne)) (h.each i lt))

-- the sources of a core's next instruction are those that are wanted
pub wanted_here : (which : Which) (r : Recording) (plan : Plan) (list : List ℕ) (wanted : List (Option (List ℕ)))
    (c : ℕ) (o d : Option (List ℕ)) →
    IsTally which r plan list wanted → c < r.params.cores → o ≡ get_or wanted c d →
    AreSources (log_edges which r) (instr c (count_of list c + 1)) (sources_in o)
wanted_here which r plan list wanted c o d h lt is =
    subst (λ (x : Option (List ℕ)). AreSources (log_edges which r) (instr c (count_of list c + 1)) (sources_in x))
    (sym (is ∙ get_or_default wanted c d None (let a = h.all_wanted in omega arith))) (h.each c lt)

-- a source that wasn't reached
pub unsourced_by : (edges : List Edge) (f : ℕ → ℕ) (c n i : ℕ) (s : List ℕ) → AreSources edges (instr c n) s →
    f i < slice_index s i →
    false ≡ is_sourced edges f c n
unsourced_by edges f c n i s h lt = unmet edges f i c n
    (λ met. let le = met (slice_index s i)
    (among_contains edges (instr i (slice_index s i)) (instr c n) (h.only i (omega arith))) in omega arith)

-- each source was
pub sourced_in : (which : Which) (r : Recording) (p : Plan) (f : ℕ → ℕ) (c n : ℕ) (s : List ℕ) → Valid r →
    p ≡ plan_of which r →
    AreSources p.edges (instr c n) s → ((i : ℕ) → i < length p.totals → slice_index s i ≤ f i) →
    true ≡ is_sourced p.edges f c n
sourced_in which r p f c n s valid plan_is h below =
    all_met p.edges f c n (length p.totals)
    (λ from has. apart which r p valid (sym plan_is) from (instr c n) has)
    (λ i lt ne a has. let le = below i lt in let e =
    h.each (instr i a) (contains_among p.edges (instr i a) (instr c n) has) in omega arith)

-- ---- along the low order

-- the counts are those of a front of the low order
pub record Counted (p : Plan) (order : List ℕ) (t : Tallied) : Type 0 where
  pub plan_is : t.plan ≡ p
  pub low : LowFront p nought order
  pub all : length t.counts ≡ length p.totals
  pub tally : count_of t.counts ≡ counts nought order

pub counted_start : (p : Plan) (t : Tallied) → t.plan ≡ p → t.counts ≡ replicate (length p.totals) 0 → Counted p [] t
counted_start p t plan_is is = record {
  plan_is = plan_is;
  low = tt;
  all = ap (λ (l : List ℕ). length l) is ∙ length-replicate (length p.totals) 0;
  tally = fun_ext (λ i. ap (λ (l : List ℕ). count_of l i) is ∙ zero_at (length p.totals) i);
}

module _ (p : Plan) (order : List ℕ) (t : Tallied) (h : Counted p order t) where
  lowest_there : (o : Option ℕ) → lowest_ready t.plan (count_of t.counts) ≡ o →
      IsLowest p (counts nought order) 0 (length p.totals) o
  lowest_there o is =
      subst (λ (x : Option ℕ). IsLowest p (counts nought order) 0 (length p.totals) x)
      (ap (λ (f : ℕ → ℕ). lowest_ready p f) (sym h.tally)
      ∙ ap (λ (q : Plan). lowest_ready q (count_of t.counts)) (sym h.plan_is) ∙ is)
      (lowest_is p (counts nought order) 0 (length p.totals))

  module _ (c : ℕ) (some : lowest_ready t.plan (count_of t.counts) ≡ Some c) where
    pub ready_there : Ready p (counts nought order) c
    ready_there = (lowest_there (Some c) some).0

    pub inside_plan : c < length t.plan.totals
    inside_plan = subst (λ (q : Plan). c < length q.totals) (sym h.plan_is) ready_there.inside

    count_there : count_of t.counts c ≡ counts nought order c
    count_there = ap (λ (f : ℕ → ℕ). f c) h.tally

    pub below_plan : count_of t.counts c < slice_index t.plan.totals c
    below_plan = subst (λ (q : Plan). count_of t.counts c < slice_index q.totals c) (sym h.plan_is)
        (let lt = ready_there.below in let e = count_there in omega arith)

    module _ (u : Tallied) (kept : u.plan ≡ t.plan)
        (counts_is : u.counts ≡ slice_set t.counts c (count_of t.counts c + 1)) where
      bumped : count_of u.counts ≡ bump (count_of t.counts) c
      bumped = fun_ext at
        where
          at : (i : ℕ) → count_of u.counts i ≡ bump (count_of t.counts) c i
          at i = elim (ℕ_discrete i c) [
            | yes e ↦
                subst (λ (x : ℕ). count_of u.counts x ≡ bump (count_of t.counts) c x) (sym e)
                (ap (λ (l : List ℕ). count_of l c) counts_is
                ∙ get_or-set_same t.counts c (count_of t.counts c + 1) 0 (let a = h.all in
                let lt = ready_there.inside in omega arith) ∙ sym (bump_here (count_of t.counts) c))
            | no ne ↦ ap (λ (l : List ℕ). count_of l i) counts_is
                ∙ get_or-set_other t.counts c i (count_of t.counts c + 1) 0 ne
                ∙ sym (bump_else (count_of t.counts) c i ne)
          ]

      pub counted_on : Counted p (order ++ c ∷ []) u
      counted_on = record {
        plan_is = kept ∙ h.plan_is;
        low = front_more p nought order c h.low ready_there (λ d lt. (lowest_there (Some c) some).1 d (omega arith) lt);
        all = ap (λ (l : List ℕ). length l) counts_is ∙ length-set t.counts c _ ∙ h.all;
        tally = bumped ∙ ap (λ (f : ℕ → ℕ). bump f c) h.tally ∙ sym (counts_on nought order (c ∷ []));
      }

      pub less_to_go : left u.plan.totals (count_of u.counts) 0 < left t.plan.totals (count_of t.counts) 0
      less_to_go =
          let one = ap (λ (q : Plan). left q.totals (count_of u.counts) 0) kept in
          let two = ap (λ (f : ℕ → ℕ). left t.plan.totals f 0) bumped in
          let step = left_step t.plan.totals (count_of t.counts) 0 c c (omega arith) inside_plan below_plan in
          omega arith

  -- no core is ready
  module _ (none : lowest_ready t.plan (count_of t.counts) ≡ None) where
    pub low_is : low_order p ≡ order
    low_is = low_end p order h.low
        (λ c ready. lowest_there None none c (omega arith) (let i = ready.inside in omega arith) ready)

    pub whole_is : (Full t.plan (count_of t.counts) → IsWhole p (low_order p)) ×
        (IsWhole p (low_order p) → Full t.plan (count_of t.counts))
    whole_is = (
      λ full. subst (λ (l : List ℕ). Full p (counts nought l)) (sym low_is)
          (subst (λ (f : ℕ → ℕ). Full p f) h.tally (subst (λ (q : Plan). Full q (count_of t.counts)) h.plan_is full)),
      λ whole. subst (λ (q : Plan). Full q (count_of t.counts)) (sym h.plan_is)
          (subst (λ (f : ℕ → ℕ). Full p f) (sym h.tally)
          (subst (λ (l : List ℕ). Full p (counts nought l)) low_is whole)),
    )
