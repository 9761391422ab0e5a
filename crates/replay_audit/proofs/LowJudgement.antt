-- A judgement along the low order.
use Rattle.std.proofs.Common.{inl, inr, ◌≡◌, ◌≢◌, ◌⊎◌, ℕ, ◌+◌, ◌-◌, ◌<◌, ◌≤◌, List, [], ◌∷◌, ◌++◌, length, get_or, take}
use Rattle.std.proofs.Common.{refl, sym, ap}
use Rattle.std.proofs.Common.{◌∙◌, subst, arith}
use Rattle.std.proofs.Common.{append-nil, get_or-set_same, get_or-set_other}
use Rattle.std.specs.Prelude.{slice_index, slice_set, Option, Some, None, IfSome, IsTrue}
use Rattle.std.specs.List.{Contains}
use Rattle.std.proofs.lemmas.List.{get_or_default, take_more}
use native.Mathlib.Decide.{ℕ_discrete, dec_lt}
use Rattle.rtr_types.specs.declared.TheConstants.{CORES_MAX}
use Rattle.rtr_types.specs.declared.instr.Instr.{Instr}
use Rattle.rtr_types.specs.declared.access.Access.{Access}
use Rattle.rtr_types.specs.declared.pairs.Which.{Which}
use Rattle.rtr_types.proofs.Instrs.{instr_eq}
use Rattle.clock_core.specs.Order.{Before, Among}
use Rattle.conflict_edge.specs.Conflicts.{ConflictPair, CountsRise, StandsIn}
use Rattle.conflict_edge.specs.Least.{Suffices}
use Rattle.conflict_edge.proofs.AccessPlaces.{stands_which, stands_left, stands_right}
use Rattle.race_log.specs.declared.recording.Recording.{Recording}
use Rattle.race_log.specs.Sources.{log_edges}
use Rattle.race_log.specs.Validity.{Valid}
use Rattle.race_log.proofs.RisingSearch.{Rising, one_place}
use Rattle.rv_core.specs.declared.outcome.Outcome.{Outcome}
use Rattle.replay_core.specs.Plans.{Plan, plan_of}
use Rattle.replay_core.specs.Play.{instr, core_at, place, touched, accesses_from, start, accesses_of}
use Rattle.replay_core.specs.Orders.{bump, counts, nought, Ready, Ordered}
use Rattle.replay_core.specs.Answers.{told}
use Rattle.replay_core.specs.Laws.{PlayKnown}
use Rattle.replay_core.proofs.Counts.{bump_here, bump_same, bump_else, bump_more, counts_on, counts_more}
use Rattle.replay_core.proofs.Places.{start_known, place_known}
use Rattle.replay_audit.specs.Determinate.{IsDeterminate}
use Rattle.replay_audit.specs.Judges.{IsAlike, AreAlike}
use Rattle.replay_audit.specs.declared.touch.Touch.{Touch}
use Rattle.replay_audit.specs.declared.unordered.Unordered.{Unordered}
use Rattle.replay_audit.specs.Touches.{IsAccessOf, touches_of, as_touch, as_access, AreRising, ArePlayed, IsAt}
use Rattle.replay_audit.specs.Touches.{IsPlaceOf}
use Rattle.replay_audit.specs.Clocks.{Kept}
use Rattle.replay_audit.specs.Trails.{Trailed, Watches, IsFinding, IsTrailOf}
use Rattle.replay_audit.specs.Walks.{Walked, IsWalk}
use Rattle.replay_audit.proofs.OrdersAgree.{low_ordered, touched_at}
use Rattle.replay_audit.proofs.ValuelessJudgement.{NeverBack, judge_law, suffices_settled, settled_suffices}
use Rattle.replay_audit.proofs.Logs.{Closed, closed_none, closed_bump, leads_back, acyclic_law}
use Rattle.replay_audit.proofs.Pairs.{Apart, both_left, both_right, across, pairs_which}
use Rattle.replay_audit.proofs.RefusedLogs.{unordered_pair}
use Rattle.replay_audit.proofs.Rise.{accesses_within, rises}
use Rattle.replay_audit.proofs.TrailSteps.{trail_along, trail_watched}
use Rattle.replay_audit.proofs.LowWalk.{counted_at, ready_at}

-- ---- touches of one core

pub rising_at : (list : List Touch) (d : Touch) → AreRising list → Rising (λ (t : Touch). t.at.count) list d
rising_at list d h i j lt below = h.each i j d lt below

pub one_at : (list : List Touch) (k count : ℕ) (d t : Touch) → AreRising list → k < length list →
    (get_or list k d).at.count ≡ count → Contains list t →
    t.at.count ≡ count → get_or list k d ≡ t
one_at list k count d t h lt is (j, below, at) same =
    let there : get_or list j d ≡ t = get_or_default list j d t below ∙ at in
    let place = one_place (λ (x : Touch). x.at.count) list d (rising_at list d h) k j lt below
    (is ∙ sym same ∙ ap (λ (x : Touch). x.at.count) (sym there)) in
    ap (λ (i : ℕ). get_or list i d) place ∙ there

-- none has a count that would stand at a place where another one stands
pub none_there : (list : List Touch) (n k : ℕ) (d t : Touch) → AreRising list → IsPlaceOf list n k →
    (k < length list → (get_or list k d).at.count ≢ n) → Contains list t → t.at.count ≡ n → ⊥
none_there list n k d t h b other (j, below, at) same =
    let there : get_or list j d ≡ t = get_or_default list j d t below ∙ at in
    let is : (get_or list j d).at.count ≡ n = ap (λ (x : Touch). x.at.count) there ∙ same in
    let within = b.within in
    elim (dec_lt j k) [
      | yes lt ↦
          let before = b.before d (omega arith) in
          elim (dec_lt j (k - 1)) [
            | yes more ↦ let r = h.each j (k - 1) d more (omega arith) in omega arith
            | no last ↦
                let q : j ≡ k - 1 = omega arith in
                let e = ap (λ (i : ℕ). (get_or list i d).at.count) q in omega arith
          ]
      | no ge ↦
          let after_ = b.after d (omega arith) in
          elim (dec_lt k j) [
            | yes more ↦ let r = h.each k j d more below in omega arith
            | no here ↦
                let q : j ≡ k = omega arith in
                absurd (other (omega arith) (sym (ap (λ (i : ℕ). (get_or list i d).at.count) q) ∙ is))
          ]
    ]

-- the place of the next count: after the touch that has the count, or the same
pub place_after : (list : List Touch) (n k : ℕ) → AreRising list → IsPlaceOf list n k → IsAt list n k →
    IsPlaceOf list (n + 1) (k + 1)
place_after list n k h b at = record {
  within = let lt = at.within in omega arith;
  before = λ d pos.
      let e : (k + 1) - 1 ≡ k = omega arith in
      let same = ap (λ (i : ℕ). (get_or list i d).at.count) e in
      let is = at.is d in omega arith;
  after = λ d lt. let r = h.each k (k + 1) d (omega arith) lt in let is = at.is d in omega arith;
}

pub place_same : (list : List Touch) (n k : ℕ) → IsPlaceOf list n k →
    ((d : Touch) → k < length list → (get_or list k d).at.count ≢ n) → IsPlaceOf list (n + 1) k
place_same list n k b other = record {
  within = b.within;
  before = λ d pos. let lt = b.before d pos in omega arith;
  after = λ d lt. let le = b.after d lt in let ne = other d lt in omega arith;
}

pub own_list : (touched : List (List Touch)) (item slice : List Touch) (c : ℕ) → c < length touched →
    item ≡ get_or touched c item → slice ≡ item →
    slice ≡ touches_of touched c
own_list touched item slice c lt item_is slice_is = slice_is ∙ item_is ∙ get_or_default touched c item [] lt

-- ---- no access is past the counts

pub accesses_below : (p : Plan) (f : ℕ → ℕ) (s : Outcome) (order : List ℕ) (a : Access) → PlayKnown p f s →
    Ordered p f order →
    StandsIn (accesses_from p s order) a → a.at.count ≤ counts f order a.at.core
accesses_below p f s [] a known o q = absurd q
accesses_below p f s (c ∷ cs) a known o q = by (stands_which (touched p s c) (accesses_from p (place p s c) cs) a q)
    (accesses_below p (bump f c) (place p s c) cs a (place_known p f s c known o.0) o.1)
  where
    by : StandsIn (touched p s c) a ⊎ StandsIn (accesses_from p (place p s c) cs) a →
        (StandsIn (accesses_from p (place p s c) cs) a → a.at.count ≤ counts (bump f c) cs a.at.core) →
        a.at.count ≤ counts (bump f c) cs a.at.core
    by (inr t) go = go t
    by (inl t) go =
        let at = touched_at p s c a t in
        let core : a.at.core ≡ c = ap (λ (x : Instr). x.core) at in
        let count : a.at.count ≡ (core_at s c).count + 1 = ap (λ (x : Instr). x.count) at in
        let n : (core_at s c).count ≡ f c = ap (λ (g : ℕ → ℕ). g c) known.counts in
        let g : f a.at.core ≡ f c = ap f core in
        let b = bump_same f c a.at.core core in
        let m = counts_more (bump f c) cs a.at.core in
        omega arith

-- ---- the accesses that were laid along the low order so far

pub record Laid (which : Which) (r : Recording) (touched : List (List Touch)) (order : List ℕ) (list : List Access)
    : Type 0 where
  pub below : (a : Access) → StandsIn list a → a.at.count ≤ counts nought order a.at.core
  pub from : (a : Access) → StandsIn list a → (t : Touch) × Contains (touches_of touched a.at.core) t ×
      (a ≡ as_access t)
  pub has : (c : ℕ) (t : Touch) → 1 ≤ t.at.count → t.at.count ≤ counts nought order c →
      Contains (touches_of touched c) t → StandsIn list (as_access t)
  pub never : NeverBack (log_edges which r) list
  pub closed : Closed (log_edges which r) (counts nought order)

-- the trail has come along a front of a walked order, at which these accesses were laid
pub record Judged (which : Which) (r : Recording) (touched : List (List Touch)) (order front : List ℕ) (s : Trailed)
    : Type 0 where
  pub list : List Access
  pub listed : IsTrue s.listed
  pub trail : IsTrailOf (log_edges which r) r.params.cores (counts nought order) list s
  pub rise : CountsRise list
  pub inside : (b : Access) → StandsIn list b → b.at.core < length r.totals
  pub laid : Laid which r touched front list

pub judged_start : (which : Which) (r : Recording) (touched : List (List Touch)) (order : List ℕ) (s : Trailed) →
    IsWalk which r order s.kept → IsTrue s.listed → s.accesses ≡ [] →
    s.found ≡ None →
    Judged which r touched order [] s
judged_start which r touched order s walk listed accesses found = record {
  list = [];
  listed = listed;
  trail = trail_along (log_edges which r) r.params.cores (counts nought order) s walk.clocked (λ l. accesses)
      found;
  rise = tt;
  inside = λ b q. absurd q;
  laid = record {
    below = λ a q. absurd q;
    from = λ a q. absurd q;
    has = λ c u pos le h. absurd (omega arith);
    never = λ x y q b. q;
    closed = closed_none which r walk.valid;
  };
}

-- before the first place each list's is its beginning
pub places_start : (which : Which) (r : Recording) (touched : List (List Touch)) (places : List ℕ) →
    ArePlayed which r touched → ((c : ℕ) → slice_index places c ≡ 0) → (c : ℕ) →
    IsPlaceOf (touches_of touched c) 1 (slice_index places c)
places_start which r touched places played zeros c = subst (λ (k : ℕ). IsPlaceOf (touches_of touched c) 1 k)
    (sym (zeros c)) (record {
      within = omega arith;
      before = λ d pos. absurd (omega arith);
      after = λ d lt. positive d lt;
    })
  where
    positive : (d : Touch) → 0 < length (touches_of touched c) → 1 ≤ (get_or (touches_of touched c) 0 d).at.count
    positive d lt =
        let a = played.touches.back c (get_or (touches_of touched c) 0 d) (
          0,
          lt,
          get_or_default (touches_of touched c)
              0 (get_or (touches_of touched c) 0 d) d lt,
        ) in
        let known = rises (plan_of which r) nought (start (plan_of which r)) played.order
        (start_known (plan_of which r)) played.play.ordered in
        let above = known.above a.0 a.1 in
        let e = ap (λ (x : Touch). x.at.count) a.2 in
        omega arith

rise_more : (list : List Access) (a : Access) → CountsRise list → 1 ≤ a.at.count →
    ((b : Access) → StandsIn list b → b.at.core ≡ a.at.core → b.at.count < a.at.count) → CountsRise (list ++ a ∷ [])
rise_more [] a rise pos lt = (pos, (λ b q e. absurd q), tt)
rise_more (x ∷ list) a rise pos lt = (rise.0, later, rise_more list a rise.2 pos (λ b q e. lt b (inr q) e))
  where
    later : (b : Access) → StandsIn (list ++ a ∷ []) b → x.at.core ≡ b.at.core → x.at.count < b.at.count
    later b q e = by (stands_which list (a ∷ []) b q)
      where
        by : StandsIn list b ⊎ StandsIn (a ∷ []) b → x.at.count < b.at.count
        by (inl s) = rise.1 b s e
        by (inr (inl s)) = subst (λ (z : Access). x.at.count < z.at.count) s
            (lt x (inl refl) (e ∙ ap (λ (z : Access). z.at.core) (sym s)))
        by (inr (inr s)) = absurd s

-- what is found at the next place
pub record IsFoundAt (touched : List (List Touch)) (c n : ℕ) (access : Option Access) : Type 0 where
  pub found : IfSome access (IsAccessOf (touches_of touched c) n)
  pub only : (t : Touch) → Contains (touches_of touched c) t → t.at.count ≡ n → access ≡ Some (as_access t)

module _ (which : Which) (r : Recording) (valid : Valid r) (touched : List (List Touch))
    (played : ArePlayed which r touched) (order : List ℕ)
    (list : List Access) (laid : Laid which r touched order list) (c : ℕ)
    (ready : Ready (plan_of which r) (counts nought order) c) where
  at_core : (t : Touch) → Contains (touches_of touched c) t → t.at.core ≡ c
  at_core t h = let a = played.touches.back c t h in ap (λ (x : Touch). x.at.core) (sym a.2) ∙ a.3

  pub told_at : (access : Option Access) (n : ℕ) → n ≡ counts nought order c + 1 → IsFoundAt touched c n access →
      (a : Access) → StandsIn (told access) a →
      a.at ≡ instr c (counts nought order c + 1)
  told_at None n n_is h a q = absurd q
  told_at (Some b) n n_is h a (inr q) = absurd q
  told_at (Some b) n n_is h a (inl e) =
      let f = h.found in
      let at : a.at ≡ f.0.at = ap (λ (x : Access). x.at) (sym e ∙ f.3) in
      at ∙ instr_eq f.0.at (instr c (counts nought order c + 1)) (at_core f.0 f.1) (f.2 ∙ n_is)

  bumped : counts nought (order ++ c ∷ []) ≡ bump (counts nought order) c
  bumped = counts_on nought order (c ∷ [])

  more : (i : ℕ) → counts nought order i ≤ counts nought (order ++ c ∷ []) i
  more i = let e = ap (λ (g : ℕ → ℕ). g i) bumped in let b = bump_more (counts nought order) c i in omega arith

  next_count : counts nought (order ++ c ∷ []) c ≡ counts nought order c + 1
  next_count = ap (λ (g : ℕ → ℕ). g c) bumped ∙ bump_here (counts nought order) c

  closed_on : Closed (log_edges which r) (counts nought (order ++ c ∷ []))
  closed_on = subst (λ (g : ℕ → ℕ). Closed (log_edges which r) g) (sym bumped)
      (closed_bump (plan_of which r) (counts nought order) c ready laid.closed)

  -- the touches of core c within the counts were laid before, or are the next
  next_or : (t : Touch) → t.at.count ≤ counts nought (order ++ c ∷ []) c →
      (t.at.count ≤ counts nought order c) ⊎ (t.at.count ≡ counts nought order c + 1)
  next_or t le = by t.at.count (counts nought order c) (let e = next_count in omega arith)
    where
      by : (m n : ℕ) → m ≤ n + 1 → (m ≤ n) ⊎ (m ≡ n + 1)
      by m n h = grind arith

  pub rise_told : (access : Option Access) → CountsRise list →
      ((a : Access) → StandsIn (told access) a → a.at ≡ instr c (counts nought order c + 1)) →
      CountsRise (list ++ told access)
  rise_told None rise at = subst CountsRise (sym (append-nil list)) rise
  rise_told (Some a) rise at =
      let here : a.at ≡ instr c (counts nought order c + 1) = at a (inl refl) in
      let core : a.at.core ≡ c = ap (λ (x : Instr). x.core) here in
      let count : a.at.count ≡ counts nought order c + 1 = ap (λ (x : Instr). x.count) here in
      rise_more list a rise (omega arith)
      (λ b q e. let le = laid.below b q in let g = ap (counts nought order) (e ∙ core) in omega arith)

  pub laid_on : (access : Option Access) (n : ℕ) → n ≡ counts nought order c + 1 → IsFoundAt touched c n access →
      Laid which r touched (order ++ c ∷ []) (list ++ told access)
  laid_on access n n_is h = record {
    below = λ a q. below a (stands_which list (told access) a q);
    from = λ a q. from a (stands_which list (told access) a q);
    has = λ d t pos le there. has d t pos le there (ℕ_discrete d c);
    never = λ x y q b. never x y (pairs_which list (told access) x y q) b;
    closed = closed_on;
  }
    where
      at : (a : Access) → StandsIn (told access) a → a.at ≡ instr c (counts nought order c + 1)
      at = told_at access n n_is h

      below : (a : Access) → StandsIn list a ⊎ StandsIn (told access) a →
          a.at.count ≤ counts nought (order ++ c ∷ []) a.at.core
      below a (inl q) = let le = laid.below a q in let m = more a.at.core in omega arith
      below a (inr q) = subst (λ (x : Instr). x.count ≤ counts nought (order ++ c ∷ []) x.core) (sym (at a q))
          (let e = next_count in omega arith)

      of_told : (access : Option Access) → IfSome access (IsAccessOf (touches_of touched c) n) → (a : Access) →
          StandsIn (told access) a → a.at.core ≡ c →
          (t : Touch) × Contains (touches_of touched a.at.core) t × (a ≡ as_access t)
      of_told None f a q core = absurd q
      of_told (Some b) f a (inr q) core = absurd q
      of_told (Some b) f a (inl e) core =
          (f.0, subst (λ (x : ℕ). Contains (touches_of touched x) f.0) (sym core) f.1, sym e ∙ f.3)

      from : (a : Access) → StandsIn list a ⊎ StandsIn (told access) a → (t : Touch) ×
          Contains (touches_of touched a.at.core) t × (a ≡ as_access t)
      from a (inl q) = laid.from a q
      from a (inr q) = of_told access h.found a q (ap (λ (x : Instr). x.core) (at a q))

      has : (d : ℕ) (t : Touch) → 1 ≤ t.at.count → t.at.count ≤ counts nought (order ++ c ∷ []) d →
          Contains (touches_of touched d) t → Dec (d ≡ c) →
          StandsIn (list ++ told access) (as_access t)
      has d t pos le there (no ne) =
          let e = ap (λ (g : ℕ → ℕ). g d) bumped in let b = bump_else (counts nought order) c d ne in
          stands_left list (told access) (as_access t) (laid.has d t pos (omega arith) there)
      has d t pos le there (yes e) =
          by (next_or t (subst (λ (x : ℕ). t.at.count ≤ counts nought (order ++ c ∷ []) x) e le))
        where
          here : Contains (touches_of touched c) t
          here = subst (λ (x : ℕ). Contains (touches_of touched x) t) e there

          by : (t.at.count ≤ counts nought order c) ⊎ (t.at.count ≡ counts nought order c + 1) →
              StandsIn (list ++ told access) (as_access t)
          by (inl old) = stands_left list (told access) (as_access t) (laid.has c t pos old here)
          by (inr next) = stands_right list (told access) (as_access t)
              (subst (λ (o : Option Access). StandsIn (told o) (as_access t)) (sym (h.only t here (next ∙ sym n_is)))
              (inl refl))

      single : (access : Option Access) (x y : Instr) → ConflictPair (told access) x y → ⊥
      single None x y q = q
      single (Some a) x y (inl q) = q.2
      single (Some a) x y (inr q) = q

      never : (x y : Instr) → Apart list (told access) x y → Before (Among (log_edges which r)) y x → ⊥
      never x y (both_left q) b = laid.never x y q b
      never x y (both_right q) b = single access x y q
      never x y (across a d s u e g k) b =
          let y_is : y ≡ instr c (counts nought order c + 1) = sym g ∙ at d u in
          let within : x.count ≤ counts nought order x.core =
          subst (λ (z : Instr). z.count ≤ counts nought order z.core) e (laid.below a s) in
          let le : y.count ≤ counts nought order y.core =
          leads_back (log_edges which r) (counts nought order) y x laid.closed (inr b) within in
          let bad : counts nought order c + 1 ≤ counts nought order c =
          subst (λ (z : Instr). z.count ≤ counts nought order z.core) y_is le in
          omega arith

-- ---- one place more

module _ {which : Which} {r : Recording} {touched : List (List Touch)} (played : ArePlayed which r touched)
    {order : List ℕ} {kept : Kept} (walk : IsWalk which r order kept) (k : ℕ) {s : Trailed}
    (j : Judged which r touched order (take k order) s) where
  pub each_core : IsTrue s.listed → (b : Access) → StandsIn s.accesses b → b.at.core < CORES_MAX
  each_core listed b q =
      let lt = j.inside b (subst (λ (l : List Access). StandsIn l b) (j.trail.accesses_is listed) q) in
      let a = walk.valid.each_core in
      let m = walk.valid.params.cores in
      omega arith

  module _ (lt : k < length order) {c : ℕ} (d : ℕ) (c_is : c ≡ get_or order k d) where
    pub ready_place : Ready (plan_of which r) (counts nought (take k order)) c
    ready_place = subst (λ (x : ℕ). Ready (plan_of which r) (counts nought (take k order)) x) (sym c_is)
        (ready_at (plan_of which r) nought order k d
        (subst (λ (l : List ℕ). Ordered (plan_of which r) nought l) (sym walk.order_is) (low_ordered (plan_of which r)))
        lt)

    pub few_place : c < CORES_MAX
    few_place =
        let i = ready_place.inside in
        let a = walk.valid.each_core in
        let m = walk.valid.params.cores in
        omega arith

    pub touched_place : c < length touched
    touched_place = let i = ready_place.inside in let m = played.touches.all in omega arith

    within_order : counts nought (take k order) c + 1 ≤ counts nought order c
    within_order = subst (λ (x : ℕ). counts nought (take k order) x + 1 ≤ counts nought order x) (sym c_is)
        (counted_at nought order k d lt)

    next_front : take (k + 1) order ≡ take k order ++ c ∷ []
    next_front = take_more order k d lt ∙ ap (λ (x : ℕ). take k order ++ x ∷ []) (sym c_is)

    module _ {access : Option Access} {n : ℕ} (n_is : n ≡ counts nought (take k order) c + 1)
        (found : IsFoundAt touched c n access) where
      told_place : (a : Access) → StandsIn (told access) a → a.at ≡ instr c (counts nought (take k order) c + 1)
      told_place = told_at which r walk.valid touched played (take k order) j.list j.laid c ready_place access n n_is
          found

      rise_place : CountsRise (j.list ++ told access)
      rise_place = rise_told which r walk.valid touched played (take k order) j.list j.laid c ready_place access j.rise
          told_place

      laid_place : Laid which r touched (take (k + 1) order) (j.list ++ told access)
      laid_place = subst (λ (l : List ℕ). Laid which r touched l (j.list ++ told access)) (sym next_front)
          (laid_on which r walk.valid touched played (take k order) j.list j.laid c ready_place access n n_is found)

    -- which has no access
    pub judged_none : {n : ℕ} → n ≡ counts nought (take k order) c + 1 → IsFoundAt touched c n None →
        Judged which r touched order (take (k + 1) order) s
    judged_none {n} n_is found = record {
      list = j.list;
      listed = j.listed;
      trail = j.trail;
      rise = j.rise;
      inside = j.inside;
      laid = subst (λ (l : List Access). Laid which r touched (take (k + 1) order) l) (append-nil j.list)
          (laid_place {access = None} n_is found);
    }

    -- or one, which is watched
    module _ {n : ℕ} (n_is : n ≡ counts nought (take k order) c + 1) {a : Access}
        (found : IsFoundAt touched c n (Some a)) where
      at_place : a.at ≡ instr c (counts nought (take k order) c + 1)
      at_place = told_place {access = Some a} n_is found a (inl refl)

      core_place : a.at.core ≡ c
      core_place = ap (λ (x : Instr). x.core) at_place

      pub access_place : a.at.core < CORES_MAX
      access_place = let e = core_place in let lt = few_place in omega arith

      pub judged_some : (t : Trailed) → Watches s a t → Judged which r touched order (take (k + 1) order) t
      judged_some t w = record {
        list = j.list ++ a ∷ [];
        listed = subst IsTrue (sym w.listed) j.listed;
        trail = trail_watched (log_edges which r) r.params.cores (counts nought order) j.list s t a j.trail w
            (let e = core_place in let i = ready_place.inside in let m = walk.valid.each_core in omega arith)
            access_place
            (let e = ap (λ (x : Instr). x.count) at_place in omega arith)
            (let e = ap (λ (x : Instr). x.count) at_place in
            let g = ap (counts nought order) core_place in let m = within_order in omega arith)
            j.rise (rise_place {access = Some a} n_is found);
        rise = rise_place {access = Some a} n_is found;
        inside = λ b q. in_either b (stands_which j.list (a ∷ []) b q);
        laid = laid_place {access = Some a} n_is found;
      }
        where
          in_either : (b : Access) → StandsIn j.list b ⊎ StandsIn (a ∷ []) b → b.at.core < length r.totals
          in_either b (inl q) = j.inside b q
          in_either b (inr (inl q)) =
              let e : a.at.core ≡ b.at.core = ap (λ (x : Access). x.at.core) q in
              let f = core_place in
              let lt = ready_place.inside in
              omega arith
          in_either b (inr (inr q)) = absurd q

-- ---- what the code keeps along the order

-- the walk, by other names
pub walk_there : (v w : Walked) (order list : List ℕ) (kept : Kept) → v ≡ w → list ≡ order →
    IsWalk v.which v.recording order kept → IsWalk w.which w.recording list kept
walk_there v w order list kept e q h = subst (λ (l : List ℕ). IsWalk w.which w.recording l kept) (sym q)
    (subst (λ (x : Walked). IsWalk x.which x.recording order kept) e h)

module _ (order : List ℕ) (k c n : ℕ) (lt : k < length order) (c_is : c ≡ get_or order k 0) (few : c < CORES_MAX)
    (n_is : n ≡ counts nought (take k order) c + 1) where
  counts_next : counts nought (take (k + 1) order) ≡ bump (counts nought (take k order)) c
  counts_next = ap (λ (l : List ℕ). counts nought l)
      (take_more order k 0 lt ∙ ap (λ (x : ℕ). take k order ++ x ∷ []) (sym c_is))
      ∙ counts_on nought (take k order) (c ∷ [])

  pub counted_next : (list : List ℕ) → length list ≡ CORES_MAX →
      ((i : ℕ) → slice_index list i ≡ counts nought (take k order) i) → (i : ℕ) →
      slice_index (slice_set list c n) i ≡ counts nought (take (k + 1) order) i
  counted_next list all old i = by (ℕ_discrete i c)
    where
      by : Dec (i ≡ c) → slice_index (slice_set list c n) i ≡ counts nought (take (k + 1) order) i
      by (yes e) = ap (slice_index (slice_set list c n)) e ∙ get_or-set_same list c n 0 (omega arith) ∙ n_is
          ∙ sym (bump_here (counts nought (take k order)) c)
          ∙ sym (ap (bump (counts nought (take k order)) c) e) ∙ sym (ap (λ (g : ℕ → ℕ). g i) counts_next)
      by (no ne) = get_or-set_other list c i n 0 ne ∙ old i ∙ sym (bump_else (counts nought (take k order)) c i ne)
          ∙ sym (ap (λ (g : ℕ → ℕ). g i) counts_next)

  pub placed_next : (touched : List (List Touch)) (places : List ℕ) (place : ℕ) → length places ≡ CORES_MAX →
      ((i : ℕ) → IsPlaceOf (touches_of touched i) (counts nought (take k order) i + 1) (slice_index places i)) →
      IsPlaceOf (touches_of touched c) (n + 1) place → (i : ℕ) →
      IsPlaceOf (touches_of touched i) (counts nought (take (k + 1) order) i + 1)
      (slice_index (slice_set places c place) i)
  placed_next touched places place all old new i = subst (λ (g : ℕ → ℕ). IsPlaceOf (touches_of touched i) (g i + 1)
      (slice_index (slice_set places c place) i)) (sym counts_next) (by (ℕ_discrete i c))
    where
      by : Dec (i ≡ c) → IsPlaceOf (touches_of touched i) (bump (counts nought (take k order)) c i + 1)
          (slice_index (slice_set places c place) i)
      by (yes e) = subst (λ (x : ℕ). IsPlaceOf (touches_of touched x) (bump (counts nought (take k order)) c x + 1)
          (slice_index (slice_set places c place) x)) (sym e)
          (subst (λ (x : ℕ). IsPlaceOf (touches_of touched c) (bump (counts nought (take k order)) c c + 1) x)
          (sym (get_or-set_same places c place 0 (omega arith)))
          (subst (λ (x : ℕ). IsPlaceOf (touches_of touched c) (x + 1) place)
          (n_is ∙ sym (bump_here (counts nought (take k order)) c)) new))
      by (no ne) = subst (λ (x : ℕ). IsPlaceOf (touches_of touched i) (bump (counts nought (take k order)) c i + 1) x)
          (sym (get_or-set_other places c i place 0 ne))
          (subst (λ (x : ℕ). IsPlaceOf (touches_of touched i) (x + 1) (slice_index places i))
          (sym (bump_else (counts nought (take k order)) c i ne)) (old i))

-- ---- the verdict

module _ {which : Which} {r : Recording} {touched : List (List Touch)} (played : ArePlayed which r touched)
    {order : List ℕ} {kept : Kept} (walk : IsWalk which r order kept) {s : Trailed}
    (j : Judged which r touched order order s) where
  full : (c : ℕ) → c < length r.totals → counts nought order c ≡ slice_index r.totals c
  full c lt = walk.whole.each c lt

  alike : AreAlike (accesses_of (plan_of which r) played.order) j.list
  alike = record { forth = forth; back = back }
    where
      forth : (a : Access) → StandsIn (accesses_of (plan_of which r) played.order) a → (b : Access) ×
          StandsIn j.list b × IsAlike a b
      forth a q =
          let inside = accesses_within which r played.order played.play.ordered a q in
          let known = rises (plan_of which r) nought (start (plan_of which r)) played.order
          (start_known (plan_of which r)) played.play.ordered in
          let above = known.above a q in
          let below = accesses_below (plan_of which r) nought (start (plan_of which r)) played.order a
          (start_known (plan_of which r)) played.play.ordered q in
          let most = played.play.whole.each a.at.core inside in
          let all = full a.at.core inside in (
            as_access (as_touch a),
            j.laid.has a.at.core (as_touch a) (omega arith) (omega arith) (played.touches.forth a q),
            record { at = refl; word = refl; kind = refl },
          )

      back : (b : Access) → StandsIn j.list b → (a : Access) ×
          StandsIn (accesses_of (plan_of which r) played.order) a × IsAlike a b
      back b q =
          let f = j.laid.from b q in
          let a = played.touches.back b.at.core f.0 f.1 in
          let same : as_access (as_touch a.0) ≡ b = ap as_access a.2 ∙ sym f.2 in (
            a.0,
            a.1,
            record {
              at = ap (λ (x : Access). x.at) same;
              word = ap (λ (x : Access). x.word) same;
              kind =
                  ap (λ (x : Access). x.kind) same;
            },
          )

  finding : IsFinding s.listed (log_edges which r) j.list s.found
  finding = j.trail.finding (acyclic_law which r order walk.valid
      (subst (λ (l : List ℕ). Ordered (plan_of which r) nought l) (sym walk.order_is) (low_ordered (plan_of which r)))
      walk.whole)

  decides : (IsDeterminate which r → Suffices j.list (Among (log_edges which r))) ×
      (Suffices j.list (Among (log_edges which r)) → IsDeterminate which r)
  decides =
      let law = judge_law which r played.order j.list walk.valid played.play alike in (
        λ det. settled_suffices (log_edges which r) j.list j.laid.never (law.0 det),
        λ suf. law.1 (suffices_settled (log_edges which r) j.list suf),
      )

  pub verdict : (found : Option Unordered) → found ≡ s.found → (found ≡ None → IsDeterminate which r) ×
      (IsDeterminate which r → found ≡ None)
  verdict found is = by found
      (subst (λ (o : Option Unordered). IsFinding s.listed (log_edges which r) j.list o) (sym is) finding)
    where
      by : (found : Option Unordered) → IsFinding s.listed (log_edges which r) j.list found →
          (found ≡ None → IsDeterminate which r)
          × (IsDeterminate which r → found ≡ None)
      by None f = (λ e. decides.1 f, λ det. refl)
      by (Some pair) f = (
        λ e. absurd (cc),
        λ det. absurd (unordered_pair (log_edges which r) j.list pair.first pair.second (f j.listed) (decides.0 det)),
      )
