-- The touches that are past are ordered by the log, as far as the walk has come, or two of them show that it doesn't
-- order them all.
use Rattle.std.proofs.Common.{inl, inr, ◌≡◌, ◌≢◌, ◌⊎◌, ◌↔◌, ℕ, ◌+◌, ◌-◌, ◌*◌, ◌<◌, ◌≤◌, Bool, List, [], ◌∷◌, ◌++◌}
use Rattle.std.proofs.Common.{length, replicate, refl, sym, ap, ◌∙◌, subst, arith, get_or-set_same, get_or-set_other}
use Rattle.std.specs.Prelude.{IsTrue, Option, Some, None, slice_index, slice_index_or, slice_set}
use Rattle.std.specs.List.{Contains}
use Rattle.std.proofs.lemmas.List.{get_or_default, length-replicate}
use native.Mathlib.Decide.{ℕ_discrete, dec_lt}
use Rattle.rtr_types.specs.Accesses.{is_write}
use Rattle.rtr_types.specs.declared.TheConstants.{CORES_MAX}
use Rattle.rtr_types.specs.declared.instr.Instr.{Instr}
use Rattle.rtr_types.specs.declared.instr.Edge.{Edge}
use Rattle.rtr_types.specs.declared.access.Access.{Access}
use Rattle.rtr_types.specs.declared.pairs.Which.{Which}
use Rattle.rtr_types.proofs.Instrs.{instr_eq}
use Rattle.rtr_types.proofs.Ranges.{replicate_at, zero_at}
use Rattle.clock_core.specs.Counts.{no_counts}
use Rattle.clock_core.specs.Order.{Before, Among, IsOrLeads}
use Rattle.clock_entries.specs.Laws.{IsAcyclic}
use Rattle.conflict_edge.specs.Conflicts.{Conflicts, StandsIn}
use Rattle.conflict_edge.proofs.AccessPlaces.{stands_which}
use Rattle.race_log.specs.declared.recording.Recording.{Recording}
use Rattle.race_log.specs.Sources.{log_edges}
use Rattle.race_log.specs.Validity.{Valid}
use Rattle.rv_core.specs.declared.outcome.Outcome.{Outcome}
use Rattle.replay_core.specs.Answers.{UsesWithin}
use Rattle.replay_core.specs.Plans.{Plan, plan_of}
use Rattle.replay_core.specs.Play.{Use, use_of, accesses_by, accesses_from, accesses_of, core_at, instr, need_at}
use Rattle.replay_core.specs.Play.{new_at}
use Rattle.replay_core.specs.Play.{old_at, place, start, touched}
use Rattle.replay_core.specs.Orders.{nought, IsWhole, low_order}
use Rattle.replay_core.proofs.PlaceSteps.{used_within}
use Rattle.replay_core.proofs.Places.{start_known}
use Rattle.replay_audit.specs.Determinate.{IsDeterminate, low_order_of}
use Rattle.replay_audit.specs.Laws.{IsSettled}
use Rattle.replay_audit.specs.declared.touch.Touch.{Touch}
use Rattle.replay_audit.specs.Touches.{ArePlayed, IsPlaceOf, as_access, as_touch, touches_of}
use Rattle.replay_audit.proofs.Logs.{acyclic_law, leads_back}
use Rattle.replay_audit.proofs.LowJudgement.{accesses_below, places_start}
use Rattle.replay_audit.proofs.OrdersAgree.{low_ordered}
use Rattle.replay_audit.proofs.Rise.{accesses_within, rises, touched_is}
use Rattle.replay_audit.proofs.SettledConflicts.{settled_law}
use Rattle.touch_judge.specs.Marks.{AreCovered, AreMarked, AreWithin, IsOpen, IsPast, IsTouchOf, last_of, slot_of}
use Rattle.replay_audit.specs.Walks.{Walked}
use Rattle.touch_judge.specs.Runs.{IsOrder, IsRunOf, no_counts_of}
use Rattle.touch_judge.specs.declared.order.Run.{Run}
use Rattle.touch_judge.proofs.Marking.{counts_rise, has_core}

-- ---- the touches of a play

words_by : (u : Use) (at : Instr) (before after words : ℕ) (a : Access) → UsesWithin u words →
    StandsIn (accesses_by u at before after) a → a.word < words
words_by None at before after words a within q = absurd q
words_by (Some used) at before after words a within (inl e) = subst (λ (x : Access). x.word < words) e within
words_by (Some used) at before after words a within (inr q) = absurd q

-- their words are of the memory
words_within : (p : Plan) (s : Outcome) (order : List ℕ) (a : Access) → StandsIn (accesses_from p s order) a →
    a.word < p.image.words
words_within p s [] a q = absurd q
words_within p s (c ∷ cs) a q = by (stands_which (touched p s c) (accesses_from p (place p s c) cs) a q)
    (words_within p (place p s c) cs a)
  where
    by : StandsIn (touched p s c) a ⊎ StandsIn (accesses_from p (place p s c) cs) a →
        (StandsIn (accesses_from p (place p s c) cs) a → a.word < p.image.words) → a.word < p.image.words
    by (inr t) go = go t
    by (inl t) go = words_by (use_of (need_at p s c)) (instr c ((core_at s c).count + 1)) (old_at p s c) (new_at p s c)
        p.image.words a (used_within p.image (core_at s c) (use_of (need_at p s c)) p.image.words refl refl)
        (subst (λ (l : List Access). StandsIn l a) (touched_is p s c) t)

-- the access of a touch
record IsAccess (which : Which) (r : Recording) (order : List ℕ) (c : ℕ) (t : Touch) : Type 0 where
  access : Access
  stands : StandsIn (accesses_of (plan_of which r) order) access
  touch : as_touch access ≡ t
  core : access.at.core ≡ c

module _ (which : Which) (r : Recording) (valid : Valid r) (touched : List (List Touch))
    (played : ArePlayed which r touched) where
  access_of : (c k : ℕ) (t : Touch) → IsTouchOf (touches_of touched c) k t → IsAccess which r played.order c t
  access_of c k t h =
      let a = played.touches.back c t (k, h.within, h.is) in
      record { access = a.0; stands = a.1; touch = a.2; core = a.3 }

  pub touches_within : (marks : ℕ) → marks ≡ 2 * r.params.words → AreWithin touched marks
  touches_within marks all = record {
    few =
        let a = played.touches.all in
        let b = valid.each_core in
        let m = valid.params.cores in
        omega arith;
    core = λ c k t h. let a = access_of c k t h in ap (λ (x : Touch). x.at.core) (sym a.touch) ∙ a.core;
    some = λ c k t h.
        let a = access_of c k t h in
        let above = (rises (plan_of which r) nought (start (plan_of which r)) played.order
        (start_known (plan_of which r)) played.play.ordered).above a.access a.stands in
        let e = ap (λ (x : Touch). x.at.count) a.touch in
        omega arith;
    word = λ c k t h.
        let a = access_of c k t h in
        let within = words_within (plan_of which r) (start (plan_of which r)) played.order a.access a.stands in
        let e = ap (λ (x : Touch). x.word) a.touch in
        omega arith;
    rising = played.touches.rising;
  }

-- ---- what is past

-- the log orders each two past touches in conflict
abbrev pub Settled : List Edge → List (List Touch) → (places : List ℕ) → Type 0
Settled edges touched places = (c d : ℕ) (t u : Touch) → IsPast touched places c t → IsPast touched places d u →
    Conflicts (as_access t) (as_access u) → Before (Among edges) t.at u.at ⊎ Before (Among edges) u.at t.at

-- the touches within the counts are past
pub record Judged (which : Which) (r : Recording) (touched : List (List Touch)) (counts places : List ℕ)
    (marks : List (List ℕ)) : Type 0 where
  pub placed : (c : ℕ) → IsPlaceOf (touches_of touched c) (slice_index counts c + 1) (slice_index places c)
  pub settled : Settled (log_edges which r) touched places
  pub marked : AreMarked touched places marks
  pub long : length marks ≡ 2 * r.params.words
  pub wide : length places ≡ CORES_MAX

-- it is one of core c's from its old place on
abbrev IsNew : List (List Touch) → (old new : List ℕ) → (c d : ℕ) → Touch → Type 0
IsNew touched old new c d x = (d ≡ c) × (i : ℕ) × (slice_index old c ≤ i) × (i < slice_index new c)
    × IsTouchOf (touches_of touched c) i x

flip : (a b : Access) → Conflicts a b → Conflicts b a
flip a b h = ((λ e. h.0 (sym e)), sym h.1, by h.2)
  where
    by : IsTrue (is_write a.kind) ⊎ IsTrue (is_write b.kind) → IsTrue (is_write b.kind) ⊎ IsTrue (is_write a.kind)
    by (inl w) = inr w
    by (inr w) = inl w

module _ {which : Which} {r : Recording} {touched : List (List Touch)} (valid : Valid r)
    (played : ArePlayed which r touched) {counts places : List ℕ} {marks : List (List ℕ)}
    (j : Judged which r touched counts places marks) where
  pub within : AreWithin touched (length marks)
  within = touches_within which r valid touched played (length marks) j.long

  -- a past touch is of an instruction that the walk has come to
  past_count : (c : ℕ) (x : Touch) → IsPast touched places c x → x.at.count ≤ slice_index counts c
  past_count c x h = elim (dec_lt h.place (slice_index places c - 1)) [
    | yes lt ↦
        let b = h.before in
        let w = (j.placed c).within in
        let last = (j.placed c).before x (omega arith) in
        let up = (within.rising c).each h.place (slice_index places c - 1) x lt (omega arith) in
        let e = ap (λ (y : Touch). y.at.count) h.touch.is in
        omega arith
    | no ge ↦
        let b = h.before in
        let last = (j.placed c).before x (omega arith) in
        let same : slice_index places c - 1 ≡ h.place = omega arith in
        let q = ap (λ (i : ℕ). (slice_index_or (touches_of touched c) i x).at.count) same in
        let e = ap (λ (y : Touch). y.at.count) h.touch.is in
        omega arith
  ]

  -- and one from its core's place on isn't
  next_count : (c n : ℕ) (x : Touch) → slice_index places c ≤ n → IsTouchOf (touches_of touched c) n x →
      slice_index counts c < x.at.count
  next_count c n x from h = elim (dec_lt (slice_index places c) n) [
    | yes lt ↦
        let b = h.within in
        let first = (j.placed c).after x (omega arith) in
        let up = (within.rising c).each (slice_index places c) n x lt b in
        let e = ap (λ (y : Touch). y.at.count) h.is in
        omega arith
    | no ge ↦
        let b = h.within in
        let same : slice_index places c ≡ n = omega arith in
        let first = (j.placed c).after x (omega arith) in
        let q = ap (λ (i : ℕ). (slice_index_or (touches_of touched c) i x).at.count) same in
        let e = ap (λ (y : Touch). y.at.count) h.is in
        omega arith
  ]

  core_at_past : (c : ℕ) (x : Touch) → IsPast touched places c x → x.at.core ≡ c
  core_at_past c x h = within.core c h.place x h.touch

  -- ---- a run

  module _ (acyclic : IsAcyclic (log_edges which r)) {run : Run} (is : IsRunOf (log_edges which r) counts run) where
    -- the clock has what leads to a touch of the run
    leads : (d : ℕ) (x y : Touch) → IsPast touched places d x → d ≢ run.core → y.at.core ≡ run.core →
        slice_index counts run.core < y.at.count → y.at.count ≤ run.until →
        (x.at.count ≤ slice_index run.clock d) ↔ IsOrLeads (Among (log_edges which r)) x.at y.at
    leads d x y past ne core from to =
        let x_core = core_at_past d x past in
        let some_x = within.some d past.place x past.touch in
        let by = is.clock acyclic y.at.count x.at from to some_x (λ e. ne (sym x_core ∙ e)) in
        let same = ap (λ (i : ℕ). slice_index run.clock i) x_core in
        let y_is : instr run.core y.at.count ≡ y.at = sym (instr_eq y.at (instr run.core y.at.count) core refl) in (
          λ le. subst (λ (z : Instr). IsOrLeads (Among (log_edges which r)) x.at z) y_is (by.0 (omega arith)),
          λ l. let le = by.1 (subst (λ (z : Instr). IsOrLeads (Among (log_edges which r)) x.at z) (sym y_is) l) in
              omega arith,
        )

    before_by : (d : ℕ) (x y : Touch) → x.at.core ≡ d → d ≢ run.core → y.at.core ≡ run.core →
        IsOrLeads (Among (log_edges which r)) x.at y.at → Before (Among (log_edges which r)) x.at y.at
    before_by d x y x_core ne y_core (inl e) = absurd (ne (sym x_core ∙ ap (λ (z : Instr). z.core) e ∙ y_core))
    before_by d x y x_core ne y_core (inr b) = b

    -- two that the clock leaves open
    pub open_not : IsOpen touched places run.core run.until run.clock → IsDeterminate which r → ⊥
    open_not o det =
        let x = o.first in
        let y = o.second in
        let d = o.core in
        let x_core = core_at_past d x o.past in
        let y_core = within.core run.core o.place y o.touch in
        let ne : d ≢ run.core = λ e. o.conflict.0 (x_core ∙ e ∙ sym y_core) in
        let from = next_count run.core o.place y o.from o.touch in
        let le = past_count d x o.past in
        let open_ = o.open_is in
        let by = leads d x y o.past ne y_core from o.within in
        let a = access_of which r valid touched played d o.past.place x o.past.touch in
        let b = access_of which r valid touched played run.core o.place y o.touch in
        let conflict : Conflicts a.access b.access =
        subst (λ (z : Touch). Conflicts (as_access z) b.access) (sym a.touch)
        (subst (λ (z : Touch). Conflicts (as_access x) (as_access z)) (sym b.touch) o.conflict) in
        either (λ q. let e = by.1 (inr q) in omega arith) back
        (subst (λ (z : Touch). Before (Among (log_edges which r)) z.at y.at
        ⊎ Before (Among (log_edges which r)) y.at z.at) a.touch
        (subst (λ (z : Touch). Before (Among (log_edges which r)) a.access.at z.at
        ⊎ Before (Among (log_edges which r)) z.at a.access.at) b.touch
        ((settled_law which r played.order valid played.play).0 det a.access b.access a.stands b.stands conflict)))
      where
        either : {A B : Type 0} → (A → ⊥) → (B → ⊥) → A ⊎ B → ⊥
        either f g (inl a) = f a
        either f g (inr b) = g b

        back : Before (Among (log_edges which r)) o.second.at o.first.at → ⊥
        back q =
            let x_core = core_at_past o.core o.first o.past in
            let y_core = within.core run.core o.place o.second o.touch in
            let below = past_count o.core o.first o.past in
            let f = ap (λ (i : ℕ). slice_index counts i) x_core in
            let g = ap (λ (i : ℕ). slice_index counts i) y_core in
            let from = next_count run.core o.place o.second o.from o.touch in
            let le = leads_back (log_edges which r) (λ (i : ℕ). slice_index counts i) o.second.at o.first.at is.closed
            (inr q) (omega arith) in
            omega arith

    -- ---- all are covered

    module _ (later : List ℕ) (others : (d : ℕ) → d ≢ run.core → slice_index later d ≡ slice_index places d)
        (more : slice_index places run.core ≤ slice_index later run.core)
        (here : IsPlaceOf (touches_of touched run.core) (run.until + 1) (slice_index later run.core))
        (covered : AreCovered touched places later run.core run.clock) where
      -- a past touch was past before, or is one of the run's
      old_or_new : (d : ℕ) (x : Touch) → IsPast touched later d x → IsPast touched places d x
          ⊎ IsNew touched places later run.core d x
      old_or_new d x h = by (ℕ_discrete d run.core) (dec_lt h.place (slice_index places d))
        where
          by : Dec (d ≡ run.core) → Dec (h.place < slice_index places d) → IsPast touched places d x
              ⊎ IsNew touched places later run.core d x
          by e (yes lt) = inl (record { place = h.place; before = lt; touch = h.touch })
          by (no ne) (no ge) = let o = others d ne in let b = h.before in absurd (omega arith)
          by (yes e) (no ge) =
              let p = ap (λ (i : ℕ). slice_index places i) e in
              let q = ap (λ (i : ℕ). slice_index later i) e in
              let b = h.before in
              inr (
                e,
                h.place,
                omega arith,
                omega arith,
                subst (λ (i : ℕ). IsTouchOf (touches_of touched i) h.place x) e h.touch,
              )

      run_count : (i : ℕ) (x : Touch) → i < slice_index later run.core → IsTouchOf (touches_of touched run.core) i x →
          x.at.count ≤ run.until
      run_count i x lt h = elim (dec_lt i (slice_index later run.core - 1)) [
        | yes less ↦
            let w = here.within in
            let last = here.before x (omega arith) in
            let up = (within.rising run.core).each i (slice_index later run.core - 1) x less (omega arith) in
            let e = ap (λ (y : Touch). y.at.count) h.is in
            omega arith
        | no ge ↦
            let last = here.before x (omega arith) in
            let same : slice_index later run.core - 1 ≡ i = omega arith in
            let q = ap (λ (m : ℕ). (slice_index_or (touches_of touched run.core) m x).at.count) same in
            let e = ap (λ (y : Touch). y.at.count) h.is in
            omega arith
      ]

      -- one past before leads to one of the run
      led : (d : ℕ) (x y : Touch) (i : ℕ) → IsPast touched places d x → slice_index places run.core ≤ i →
          i < slice_index later run.core → IsTouchOf (touches_of touched run.core) i y →
          Conflicts (as_access x) (as_access y) → Before (Among (log_edges which r)) x.at y.at
      led d x y i past from to h conflict =
          let x_core = core_at_past d x past in
          let y_core = within.core run.core i y h in
          let ne : d ≢ run.core = λ e. conflict.0 (x_core ∙ e ∙ sym y_core) in
          before_by d x y x_core ne y_core
          ((leads d x y past ne y_core (next_count run.core i y from h) (run_count i y to h)).0
          (covered d i y x from to h past conflict))

      settled_on : Settled (log_edges which r) touched later
      settled_on a b x y p q conflict = by (old_or_new a x p) (old_or_new b y q)
        where
          by : IsPast touched places a x ⊎ IsNew touched places later run.core a x →
              IsPast touched places b y ⊎ IsNew touched places later run.core b y →
              Before (Among (log_edges which r)) x.at y.at ⊎ Before (Among (log_edges which r)) y.at x.at
          by (inl s) (inl u) = j.settled a b x y s u conflict
          by (inl s) (inr u) = inl (led a x y u.1 s u.2 u.3 u.4 conflict)
          by (inr s) (inl u) = inr (led b y x s.1 u s.2 s.3 s.4 (flip (as_access x) (as_access y) conflict))
          by (inr s) (inr u) =
              absurd (conflict.0 (within.core run.core s.1 x s.4 ∙ sym (within.core run.core u.1 y u.4)))

      pub judged_on : {later_marks : List (List ℕ)} → AreMarked touched later later_marks →
          length later_marks ≡ length marks → length later ≡ length places →
          Judged which r touched (slice_set counts run.core run.until) later later_marks
      judged_on {later_marks} marked long wide = record {
        placed = λ d. placed d (ℕ_discrete d run.core);
        settled = settled_on;
        marked = marked;
        long = long ∙ j.long;
        wide = wide ∙ j.wide;
      }
        where
          placed : (d : ℕ) → Dec (d ≡ run.core) →
              IsPlaceOf (touches_of touched d) (slice_index (slice_set counts run.core run.until) d + 1)
              (slice_index later d)
          placed d (no ne) =
              subst (λ (m : ℕ). IsPlaceOf (touches_of touched d) (m + 1) (slice_index later d))
              (sym (get_or-set_other counts run.core d run.until 0 ne))
              (subst (λ (m : ℕ). IsPlaceOf (touches_of touched d) (slice_index counts d + 1) m) (sym (others d ne))
              (j.placed d))
          placed d (yes e) =
              subst (λ (i : ℕ). IsPlaceOf (touches_of touched i)
              (slice_index (slice_set counts run.core run.until) i + 1) (slice_index later i)) (sym e)
              (subst (λ (m : ℕ). IsPlaceOf (touches_of touched run.core) (m + 1) (slice_index later run.core))
              (sym (get_or-set_same counts run.core run.until 0 is.core)) here)

  -- ---- the end

  module _ (ends : (c : ℕ) → c < length r.totals → slice_index counts c ≡ slice_index r.totals c) where
    all_past : (a : Access) → StandsIn (accesses_of (plan_of which r) played.order) a →
        IsPast touched places a.at.core (as_touch a)
    all_past a q =
        let has = played.touches.forth a q in
        record { place = has.0; before = before has; touch = record { within = has.1; is = has.2 } }
      where
        before : (has : Contains (touches_of touched a.at.core) (as_touch a)) → has.0 < slice_index places a.at.core
        before has = elim (dec_lt has.0 (slice_index places a.at.core)) [
          | yes lt ↦ lt
          | no ge ↦
              let inside = accesses_within which r played.order played.play.ordered a q in
              let below = accesses_below (plan_of which r) nought (start (plan_of which r)) played.order a
              (start_known (plan_of which r)) played.play.ordered q in
              let most = played.play.whole.each a.at.core inside in
              let full = ends a.at.core inside in
              let up = next_count a.at.core has.0 (as_touch a) (omega arith)
              (record { within = has.1; is = has.2 }) in
              absurd (omega arith)
        ]

    pub all_judged : IsDeterminate which r
    all_judged = (settled_law which r played.order valid played.play).1
        (λ a b s q conflict. j.settled a.at.core b.at.core (as_touch a) (as_touch b) (all_past a s) (all_past b q)
        conflict)

-- ---- the start

pub judged_start : (which : Which) (r : Recording) (all : List (List Touch)) (marks : List (List ℕ)) → Valid r →
    ArePlayed which r all → marks ≡ replicate (2 * r.params.words) no_counts →
    Judged which r all (no_counts_of r) (replicate CORES_MAX 0) marks
judged_start which r all marks valid played marks_are = record {
  placed = λ c. subst (λ (n : ℕ). IsPlaceOf (touches_of all c) (n + 1) (slice_index (replicate CORES_MAX 0) c))
      (sym (zero_at (length r.totals) c))
      (places_start which r all (replicate CORES_MAX 0) played (zero_at CORES_MAX) c);
  settled = λ c d x y p q conflict. absurd (none c x p);
  marked = record {
    last = λ c x p. absurd (none c x p);
    real = λ c word writes some.
        let e : last_of marks word writes ≡ no_counts =
        ap (λ (l : List (List ℕ)). slice_index_or l (slot_of word writes) no_counts) marks_are
        ∙ replicate_at (2 * r.params.words) (slot_of word writes) no_counts in
        let z = ap (λ (l : List ℕ). slice_index l c) e in
        let n = zero_at CORES_MAX c in
        absurd (omega arith);
  };
  long = ap (λ (l : List (List ℕ)). length l) marks_are ∙ length-replicate (2 * r.params.words) no_counts;
  wide = length-replicate {A = ℕ} CORES_MAX 0;
}
  where
    none : (c : ℕ) (x : Touch) → IsPast all (replicate CORES_MAX 0) c x → ⊥
    none c x p = let z = zero_at CORES_MAX c in let lt = p.before in omega arith

-- no instruction leads to itself
pub whole_acyclic : (which : Which) (r : Recording) → Valid r → IsWhole (plan_of which r) (low_order_of which r) →
    IsAcyclic (log_edges which r)
whole_acyclic which r valid whole =
    acyclic_law which r (low_order (plan_of which r)) valid (low_ordered (plan_of which r)) whole

-- the order, by other names
pub order_there : (v w : Walked) (runs list : List Run) → v ≡ w → list ≡ runs → IsOrder v.which v.recording runs →
    IsOrder w.which w.recording list
order_there v w runs list e q h = subst (λ (l : List Run). IsOrder w.which w.recording l) (sym q)
    (subst (λ (x : Walked). IsOrder x.which x.recording runs) e h)
