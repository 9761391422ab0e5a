-- The rounds that the code takes are those of the definition. Within a round the places taken so far, with what is
-- ready of the cores to come, are the round; between rounds the places so far, with as many rounds as may still be
-- wanted, are the timeline.
use Rattle.std.proofs.Common.{◌≡◌, ℕ, zero, suc, ◌+◌, ◌-◌, ◌<◌, ◌≤◌, Bool, true, false, List, [], ◌∷◌, ◌++◌, length}
use Rattle.std.proofs.Common.{replicate}
use Rattle.std.proofs.Common.{append-nil, append_assoc, refl, sym, ap, ◌∙◌, subst, arith}
use Rattle.std.proofs.Common.{length-set, get_or-set_same, get_or-set_other}
use Rattle.std.proofs.Math.Path.{fun_ext}
use Rattle.std.proofs.lemmas.List.{length-replicate}
use Rattle.std.specs.Prelude.{slice_index, slice_set, sum}
use native.Mathlib.Decide.{ℕ_discrete}
use Rattle.rtr_types.specs.CoreSets.{has, no_cores, with_core}
use Rattle.rtr_types.specs.declared.TheConstants.{CORES_MAX}
use Rattle.rtr_types.specs.declared.core_set.CoreSet.{CoreSet}
use Rattle.rtr_types.proofs.Members.{has-no_cores, has-with_same, has-with_other}
use Rattle.rtr_types.proofs.Ranges.{zero_at}
use Rattle.replay_core.specs.Orders.{bump, counts, nought, is_ready}
use Rattle.replay_core.specs.Plans.{Plan}
use Rattle.replay_core.specs.Tallies.{Tallied, count_of}
use Rattle.replay_core.proofs.Counts.{bump_here, bump_else, counts_on}
use Rattle.replay_core.proofs.Low.{left, left_nought}
use Rattle.replay_core.proofs.Ready.{ready_true}
use Rattle.cut_moves.specs.Rounds.{ready_among, round, rounds_from, timeline_of, NoneAreReady, SomeAreReady}
use Rattle.cut_moves.specs.Ways.{with_place}
use Rattle.cut_moves.proofs.Rounds.{left_after, no_rounds, round_ordered}

-- ---- a tally that goes on

-- one more of core c
pub bumped : (t : List ℕ) (c : ℕ) → c < length t → count_of (slice_set t c (count_of t c + 1)) ≡ bump (count_of t) c
bumped t c lt = fun_ext at
  where
    at : (i : ℕ) → count_of (slice_set t c (count_of t c + 1)) i ≡ bump (count_of t) c i
    at i = elim (ℕ_discrete i c) [
      | yes e ↦
          subst (λ (x : ℕ). count_of (slice_set t c (count_of t c + 1)) x ≡ bump (count_of t) c x) (sym e)
          (get_or-set_same t c (count_of t c + 1) 0 lt ∙ sym (bump_here (count_of t) c))
      | no ne ↦ get_or-set_other t c i (count_of t c + 1) 0 ne ∙ sym (bump_else (count_of t) c i ne)
    ]

-- ---- which cores are ready

-- the cores below k that are ready were found, and no others
pub record AreFound (p : Plan) (f : ℕ → ℕ) (k : ℕ) (set : CoreSet) (some : Bool) : Type 0 where
  pub found : (c : ℕ) → c < k → has set c ≡ is_ready p f c
  pub rest : (c : ℕ) → k ≤ c → has set c ≡ false
  pub none : some ≡ false → (c : ℕ) → c < k → is_ready p f c ≡ false
  pub one : some ≡ true → (c : ℕ) × (c < k) × (is_ready p f c ≡ true)

pub found_start : (p : Plan) (f : ℕ → ℕ) (set : CoreSet) → set ≡ no_cores → AreFound p f 0 set false
found_start p f set is = record {
  found = λ c below. absurd (omega arith);
  rest = λ c le. ap (λ (s : CoreSet). has s c) is ∙ has-no_cores c;
  none = λ e c below. absurd (omega arith);
  one = λ e. absurd (cc);
}

pub found_as : (p : Plan) (f : ℕ → ℕ) (k : ℕ) (set other : CoreSet) (some any : Bool) → AreFound p f k set some →
    other ≡ set → any ≡ some → AreFound p f k other any
found_as p f k set other some any h same alike =
    subst (λ (s : CoreSet). AreFound p f k s any) (sym same) (subst (λ (b : Bool). AreFound p f k set b) (sym alike) h)

pub found_on : (p : Plan) (f : ℕ → ℕ) (k : ℕ) (set : CoreSet) (some : Bool) → AreFound p f k set some → k < CORES_MAX →
    is_ready p f k ≡ true → AreFound p f (k + 1) (with_core set k) true
found_on p f k set some h lt ready = record {
  found = λ c below. elim (ℕ_discrete c k) [
    | yes e ↦
        subst (λ (x : ℕ). has (with_core set k) x ≡ is_ready p f x) (sym e) (has-with_same set k lt ∙ sym ready)
    | no ne ↦ has-with_other set k c lt ne ∙ h.found c (omega arith)
  ];
  rest = λ c le. has-with_other set k c lt (λ e. omega arith) ∙ h.rest c (omega arith);
  none = λ e. absurd (cc);
  one = λ e. (k, omega arith, ready);
}

pub found_by : (p : Plan) (f : ℕ → ℕ) (k : ℕ) (set : CoreSet) (some : Bool) → AreFound p f k set some →
    is_ready p f k ≡ false → AreFound p f (k + 1) set some
found_by p f k set some h not = record {
  found = λ c below. elim (ℕ_discrete c k) [
    | yes e ↦
        subst (λ (x : ℕ). has set x ≡ is_ready p f x) (sym e) (h.rest k (omega arith) ∙ sym not)
    | no ne ↦ h.found c (omega arith)
  ];
  rest = λ c le. h.rest c (omega arith);
  none = λ e c below. elim (ℕ_discrete c k) [
    | yes same ↦ subst (λ (x : ℕ). is_ready p f x ≡ false) (sym same) not
    | no ne ↦ h.none e c (omega arith)
  ];
  one = λ e. let o = h.one e in (o.0, omega (arith, o.1), o.2);
}

-- ---- one round

pub record IsTaking (p : Plan) (f : ℕ → ℕ) (k : ℕ) (before : List ℕ) (t : Tallied) (list : List ℕ) : Type 0 where
  pub plan_is : t.plan ≡ p
  pub all : length t.counts ≡ length p.totals
  pub done : List ℕ
  pub made : list ≡ before ++ done
  pub to_come : done ++ ready_among p f k (length p.totals - k) ≡ round p f
  pub counted : count_of t.counts ≡ counts f done
  pub same : (i : ℕ) → k ≤ i → count_of t.counts i ≡ f i

pub taking_start : (t : Tallied) (before : List ℕ) → length t.counts ≡ length t.plan.totals →
    IsTaking t.plan (count_of t.counts) 0 before t before
taking_start t before all = record {
  plan_is = refl;
  all = all;
  done = [];
  made = sym (append-nil before);
  to_come = ap (λ (n : ℕ). ready_among t.plan (count_of t.counts) 0 n)
      (let e : length t.plan.totals - 0 ≡ length t.plan.totals = omega arith in e);
  counted = refl;
  same = λ i le. refl;
}

module _ (p : Plan) (f : ℕ → ℕ) (k : ℕ) (before : List ℕ) (t : Tallied) (list : List ℕ)
    (h : IsTaking p f k before t list) (lt : k < length p.totals) where
  -- what core k adds to the round
  next_is : ready_among p f k (length p.totals - k)
      ≡ with_place (is_ready p f k) k (ready_among p f (k + 1) (length p.totals - (k + 1)))
  next_is = let e : length p.totals - k ≡ suc (length p.totals - (k + 1)) = omega arith in
      ap (λ (n : ℕ). ready_among p f k n) e

  pub taking_by : is_ready p f k ≡ false → IsTaking p f (k + 1) before t list
  taking_by not = record {
    plan_is = h.plan_is;
    all = h.all;
    done = h.done;
    made = h.made;
    to_come = ap (λ (l : List ℕ). h.done ++ l)
        (sym (next_is ∙ ap (λ (b : Bool). with_place b k (ready_among p f (k + 1) (length p.totals - (k + 1)))) not))
        ∙ h.to_come;
    counted = h.counted;
    same = λ i le. h.same i (omega arith);
  }

  pub below_here : is_ready p f k ≡ true → count_of t.counts k < slice_index t.plan.totals k
  below_here ready = subst (λ (q : Plan). count_of t.counts k < slice_index q.totals k) (sym h.plan_is)
      (let b = (ready_true p f k ready).below in let e = h.same k (omega arith) in omega arith)

  module _ (ready : is_ready p f k ≡ true) (u : Tallied) (kept : u.plan ≡ t.plan)
      (counts_is : u.counts ≡ slice_set t.counts k (count_of t.counts k + 1)) where
    counted-on : count_of u.counts ≡ bump (count_of t.counts) k
    counted-on = ap (λ (l : List ℕ). count_of l) counts_is ∙ bumped t.counts k (let a = h.all in omega arith)

    pub taking_on : IsTaking p f (k + 1) before u (list ++ k ∷ [])
    taking_on = record {
      plan_is = kept ∙ h.plan_is;
      all = ap (λ (l : List ℕ). length l) counts_is ∙ length-set t.counts k _ ∙ h.all;
      done = h.done ++ k ∷ [];
      made = ap (λ (l : List ℕ). l ++ k ∷ []) h.made ∙ append_assoc before h.done (k ∷ []);
      to_come = append_assoc h.done (k ∷ []) (ready_among p f (k + 1) (length p.totals - (k + 1)))
          ∙ ap (λ (l : List ℕ). h.done ++ l)
          (sym (next_is ∙ ap (λ (b : Bool). with_place b k (ready_among p f (k + 1) (length p.totals - (k + 1))))
          ready))
          ∙ h.to_come;
      counted = counted-on ∙ ap (λ (g : ℕ → ℕ). bump g k) h.counted ∙ sym (counts_on f h.done (k ∷ []));
      same = λ i le.
          let e = ap (λ (g : ℕ → ℕ). g i) counted-on in
          let b = bump_else (count_of t.counts) k i (λ q. omega arith) in
          let s = h.same i (omega arith) in
          omega arith;
    }

-- at its end the round was taken
pub record IsTaken (p : Plan) (f : ℕ → ℕ) (before : List ℕ) (t : Tallied) (list : List ℕ) : Type 0 where
  pub list_is : list ≡ before ++ round p f
  pub counts_is : count_of t.counts ≡ counts f (round p f)

pub taking_end : (p : Plan) (f : ℕ → ℕ) (k : ℕ) (before : List ℕ) (t : Tallied) (list : List ℕ) →
    IsTaking p f k before t list → length p.totals ≤ k → IsTaken p f before t list
taking_end p f k before t list h past =
    record {
      list_is = h.made ∙ ap (λ (l : List ℕ). before ++ l) all;
      counts_is = h.counted ∙ ap (λ (l : List ℕ). counts f l) all;
    }
  where
    all : h.done ≡ round p f
    all = let e : length p.totals - k ≡ 0 = omega arith in
        sym (append-nil h.done) ∙ ap (λ (n : ℕ). h.done ++ ready_among p f k n) (sym e) ∙ h.to_come

-- ---- round after round

pub record IsSoFar (p : Plan) (t : Tallied) (list : List ℕ) : Type 0 where
  pub plan_is : t.plan ≡ p
  pub all : length t.counts ≡ length p.totals
  pub rounds : ℕ
  pub enough : left p.totals (count_of t.counts) 0 ≤ rounds
  pub made : list ++ rounds_from p rounds (count_of t.counts) ≡ timeline_of p

pub so_far_start : (p : Plan) (t : Tallied) → t.plan ≡ p → t.counts ≡ replicate (length p.totals) 0 → IsSoFar p t []
unfolding timeline_of
so_far_start p t plan_is is =
    record {
      plan_is = plan_is;
      all = ap (λ (l : List ℕ). length l) is ∙ length-replicate (length p.totals) 0;
      rounds = sum p.totals;
      enough = let a = left_nought p.totals 0 in let e = ap (λ (f : ℕ → ℕ). left p.totals f 0) none in omega arith;
      made = ap (λ (f : ℕ → ℕ). rounds_from p (sum p.totals) f) none;
    }
  where
    none : count_of t.counts ≡ nought
    none = fun_ext (λ i. ap (λ (l : List ℕ). count_of l i) is ∙ zero_at (length p.totals) i)

-- a core that is ready has a place in the round
has_place : (p : Plan) (f : ℕ → ℕ) (c n d : ℕ) → c ≤ d → d < c + n → is_ready p f d ≡ true →
    1 ≤ length (ready_among p f c n)
has_place p f c zero d le lt ready = absurd (omega arith)
has_place p f c (suc n) d le lt ready = elim (ℕ_discrete c d) [
  | yes e ↦
      let t : is_ready p f c ≡ true = ap (λ (i : ℕ). is_ready p f i) e ∙ ready in
      rw t (omega arith)
  | no ne ↦ longer (is_ready p f c) (has_place p f (c + 1) n d (omega arith) (omega arith) ready)
]
  where
    longer : (b : Bool) → 1 ≤ length (ready_among p f (c + 1) n) →
        1 ≤ length (with_place b c (ready_among p f (c + 1) n))
    longer true le = omega arith
    longer false le = le

-- a round of no ready core has none
no_place : (p : Plan) (f : ℕ → ℕ) (c n : ℕ) → ((d : ℕ) → c ≤ d → d < c + n → is_ready p f d ≡ false) →
    ready_among p f c n ≡ []
no_place p f c zero none = refl
no_place p f c (suc n) none =
    rw (none c (omega arith) (omega arith)) (no_place p f (c + 1) n (λ d le lt. none d (omega arith) (omega arith)))

module _ {p : Plan} {t : Tallied} {list : List ℕ} (h : IsSoFar p t list) where
  abbrev f : ℕ → ℕ
  f = count_of t.counts

  ordered-left : left p.totals (counts f (round p f)) 0 + length (round p f) ≡ left p.totals f 0
  ordered-left = left_after p f (round p f)
      (round_ordered p f f 0 (length p.totals) (record { more = λ i. omega arith; same = λ i le. refl }))

  module _ (set : CoreSet) (some : SomeAreReady t.plan (count_of t.counts) set) (u : Tallied) (new : List ℕ)
      (kept : u.plan ≡ t.plan) (long : length u.counts ≡ length t.counts)
      (counts_is : count_of u.counts ≡ counts (count_of t.counts) (round t.plan (count_of t.counts)))
      (list_is : new ≡ list ++ round t.plan (count_of t.counts)) where
    a_place : 1 ≤ length (round p f)
    a_place = subst (λ (q : Plan). 1 ≤ length (round q f)) h.plan_is
        (has_place t.plan f 0 (length t.plan.totals) some.core (omega arith) (let i = some.inside in omega arith)
        some.ready)

    counts_here : count_of u.counts ≡ counts f (round p f)
    counts_here = counts_is ∙ ap (λ (q : Plan). counts f (round q f)) h.plan_is

    less-left : left p.totals (count_of u.counts) 0 < left p.totals f 0
    less-left = let e = ap (λ (g : ℕ → ℕ). left p.totals g 0) counts_here in let a = ordered-left in let b = a_place in
        omega arith

    pub fewer_left : left u.plan.totals (count_of u.counts) 0 < left t.plan.totals (count_of t.counts) 0
    fewer_left = subst (λ (q : Plan). left q.totals (count_of u.counts) 0 < left t.plan.totals f 0)
        (sym (kept ∙ h.plan_is))
        (subst (λ (q : Plan). left p.totals (count_of u.counts) 0 < left q.totals f 0) (sym h.plan_is) less-left)

    pub so_far_on : IsSoFar p u new
    so_far_on = record {
      plan_is = kept ∙ h.plan_is;
      all = long ∙ h.all;
      rounds = h.rounds - 1;
      enough = let a = less-left in let b = h.enough in omega arith;
      made =
          let a = less-left in
          let b = h.enough in
          let e : h.rounds ≡ suc (h.rounds - 1) = omega arith in
          ap (λ (l : List ℕ). l ++ rounds_from p (h.rounds - 1) (count_of u.counts))
          (list_is ∙ ap (λ (q : Plan). list ++ round q f) h.plan_is)
          ∙ append_assoc list (round p f) (rounds_from p (h.rounds - 1) (count_of u.counts))
          ∙ ap (λ (g : ℕ → ℕ). list ++ (round p f ++ rounds_from p (h.rounds - 1) g)) counts_here
          ∙ ap (λ (n : ℕ). list ++ rounds_from p n f) (sym e) ∙ h.made;
    }

  pub so_far_end : NoneAreReady t.plan (count_of t.counts) → list ≡ timeline_of p
  so_far_end none =
      let here : NoneAreReady p f = subst (λ (q : Plan). NoneAreReady q f) h.plan_is none in
      let empty = no_place p f 0 (length p.totals) (λ d le lt. here d (omega arith)) in
      sym (append-nil list) ∙ ap (λ (l : List ℕ). list ++ l) (sym (no_rounds p h.rounds f empty)) ∙ h.made
