-- The marks go on by one touch, and what a clock that covers them covers.
use Rattle.std.proofs.Common.{inl, inr, ◌≡◌, ◌≢◌, ◌⊎◌, ℕ, zero, suc, ◌∷◌, ◌+◌, ◌-◌, ◌*◌, ◌<◌, ◌≤◌, Bool, true, false}
use Rattle.std.proofs.Common.{List, [], length}
use Rattle.std.proofs.Common.{refl, sym, ap, ◌∙◌, subst, arith, get_or-set_same, get_or-set_other}
use Rattle.std.specs.Prelude.{IfNone, IfSome, IsTrue, None, Option, Some, is_some, slice_index, slice_index_or}
use Rattle.std.specs.Prelude.{slice_set}
use Rattle.std.proofs.lemmas.List.{get_or_default}
use native.Mathlib.Decide.{ℕ_discrete, dec_lt}
use Rattle.rtr_types.specs.Accesses.{is_write}
use Rattle.rtr_types.specs.declared.instr.Instr.{Instr}
use Rattle.rtr_types.specs.declared.access.Kind.{Kind}
use Rattle.clock_core.specs.Counts.{no_counts}
use Rattle.conflict_edge.specs.Conflicts.{Conflicts}
use Rattle.replay_audit.specs.declared.touch.Touch.{Touch}
use Rattle.replay_audit.specs.Touches.{as_access, touches_of}
use Rattle.touch_judge.specs.Marks.{AreCovered, AreMarked, AreWithin, IsAbove, IsBelow, IsCovered, IsMarkOf, IsMarked}
use Rattle.touch_judge.specs.Marks.{IsKnown, IsOpen, IsPast, IsTouchOf, IsUncovered, last_of, slot_of}

-- ---- places

-- one touch stands at a place
pub one_touch : (list : List Touch) (k : ℕ) (t u : Touch) → IsTouchOf list k t → IsTouchOf list k u → u ≡ t
one_touch list k t u a b = sym b.is ∙ get_or_default list k u t a.within ∙ a.is

-- at a later place of its core the counts are greater
pub counts_rise : (touched : List (List Touch)) (marks c j k : ℕ) (t u : Touch) → AreWithin touched marks →
    IsTouchOf (touches_of touched c) j u → IsTouchOf (touches_of touched c) k t → j < k → u.at.count < t.at.count
counts_rise touched marks c j k t u h a b lt =
    let r = (h.rising c).each j k t lt b.within in
    let x = ap (λ (x : Touch). x.at.count) (get_or_default (touches_of touched c) j u t a.within) in
    let y = ap (λ (x : Touch). x.at.count) a.is in
    let z = ap (λ (x : Touch). x.at.count) b.is in
    omega arith

-- only cores have touches
pub has_core : (touched : List (List Touch)) (c k : ℕ) (t : Touch) → IsTouchOf (touches_of touched c) k t →
    c < length touched
has_core touched c k t h = elim (dec_lt c (length touched)) [
  | yes lt ↦ lt
  | no ge ↦ absurd (none touched c k (omega arith) h.within)
]
  where
    none : (touched : List (List Touch)) (c k : ℕ) → length touched ≤ c →
        k < length (slice_index_or touched c []) → ⊥
    none [] c k le lt = omega arith
    none (l ∷ ls) zero k le lt = omega arith
    none (l ∷ ls) (suc c) k le lt = none ls c k (omega arith) lt

module _ (touched : List (List Touch)) (places : List ℕ) (c : ℕ) (inside : c < length places) where
  pub past_else : (k d : ℕ) (u : Touch) → d ≢ c → IsPast touched (slice_set places c k) d u → IsPast touched places d u
  past_else k d u ne h = record {
    place = h.place;
    before = let e = get_or-set_other places c d k 0 ne in let lt = h.before in omega arith;
    touch = h.touch;
  }

  pub else_past : (k d : ℕ) (u : Touch) → d ≢ c → IsPast touched places d u → IsPast touched (slice_set places c k) d u
  else_past k d u ne h = record {
    place = h.place;
    before = let e = get_or-set_other places c d k 0 ne in let lt = h.before in omega arith;
    touch = h.touch;
  }

  -- the touches of core c before place k
  pub here_past : (k j : ℕ) (u : Touch) → j < k → IsTouchOf (touches_of touched c) j u →
      IsPast touched (slice_set places c k) c u
  here_past k j u lt h = record {
    place = j;
    before = let e = get_or-set_same places c k 0 inside in omega arith;
    touch = h;
  }

  pub past_here : (k : ℕ) (u : Touch) (h : IsPast touched (slice_set places c k) c u) → h.place < k
  past_here k u h = let e = get_or-set_same places c k 0 inside in let lt = h.before in omega arith

  pub past_more : (k d : ℕ) (u : Touch) → IsPast touched (slice_set places c k) d u →
      IsPast touched (slice_set places c (k + 1)) d u
  past_more k d u h = by (ℕ_discrete d c)
    where
      by : Dec (d ≡ c) → IsPast touched (slice_set places c (k + 1)) d u
      by (no ne) = else_past (k + 1) d u ne (past_else k d u ne h)
      by (yes e) = record {
        place = h.place;
        before =
            let a = get_or-set_same places c k 0 inside in
            let b = get_or-set_same places c (k + 1) 0 inside in
            let p = ap (λ (i : ℕ). slice_index (slice_set places c k) i) e in
            let q = ap (λ (i : ℕ). slice_index (slice_set places c (k + 1)) i) e in
            let lt = h.before in
            omega arith;
        touch = h.touch;
      }

-- ---- slots

slot_apart : (v w : ℕ) (a b : Bool) → slot_of v a ≡ slot_of w b → (v ≡ w) × (a ≡ b)
slot_apart v w true true e = (omega arith, refl)
slot_apart v w true false e = absurd (omega arith)
slot_apart v w false true e = absurd (omega arith)
slot_apart v w false false e = (omega arith, refl)

-- ---- one touch more

module _ (touched : List (List Touch)) (places : List ℕ) (c k : ℕ) (t : Touch) (marks new : List (List ℕ))
    (h : AreWithin touched (length marks)) (inside : c < length places)
    (m : AreMarked touched (slice_set places c k) marks) (here : IsTouchOf (touches_of touched c) k t)
    (n : IsMarked marks t new) where
  core_is : t.at.core ≡ c
  core_is = h.core c k t here

  at_same : (d word : ℕ) (writes : Bool) → slot_of word writes ≡ slot_of t.word (is_write t.kind) → d ≡ c →
      slice_index (last_of new word writes) d ≡ t.at.count
  at_same d word writes slot e =
      ap (λ (s : ℕ). slice_index (slice_index_or new s no_counts) d) slot
      ∙ ap (λ (i : ℕ). slice_index (last_of new t.word (is_write t.kind)) i) (e ∙ sym core_is) ∙ n.here

  last_on : (d : ℕ) (u : Touch) → IsPast touched (slice_set places c (k + 1)) d u →
      u.at.count ≤ slice_index (last_of new u.word (is_write u.kind)) d
  last_on d u p = by (ℕ_discrete d c)
    where
      stays : (slot_of u.word (is_write u.kind) ≡ slot_of t.word (is_write t.kind) → d ≡ t.at.core → ⊥) →
          IsPast touched (slice_set places c k) d u →
          u.at.count ≤ slice_index (last_of new u.word (is_write u.kind)) d
      stays other old = let e = n.others d u.word (is_write u.kind) other in let le = m.last d u old in omega arith

      before : (e : d ≡ c) → p.place ≢ k → p.place < k
      before e at =
          let a = get_or-set_same places c (k + 1) 0 inside in
          let q = ap (λ (i : ℕ). slice_index (slice_set places c (k + 1)) i) e in
          let lt = p.before in
          omega arith

      old : (e : d ≡ c) → p.place ≢ k → IsPast touched (slice_set places c k) d u
      old e at = record {
        place = p.place;
        before =
            let a = get_or-set_same places c k 0 inside in
            let q = ap (λ (i : ℕ). slice_index (slice_set places c k) i) e in
            let lt = before e at in
            omega arith;
        touch = p.touch;
      }

      own : (e : d ≡ c) → Dec (slot_of u.word (is_write u.kind) ≡ slot_of t.word (is_write t.kind)) →
          Dec (p.place ≡ k) → u.at.count ≤ slice_index (last_of new u.word (is_write u.kind)) d
      own e (yes slot) (yes at) =
          let there : IsTouchOf (touches_of touched c) k u =
          subst (λ (j : ℕ). IsTouchOf (touches_of touched c) j u) at
          (subst (λ (i : ℕ). IsTouchOf (touches_of touched i) p.place u) e p.touch) in
          let same = ap (λ (x : Touch). x.at.count) (one_touch (touches_of touched c) k t u here there) in
          let v = at_same d u.word (is_write u.kind) slot e in
          omega arith
      own e (no slot) (yes at) =
          let there : IsTouchOf (touches_of touched c) k u =
          subst (λ (j : ℕ). IsTouchOf (touches_of touched c) j u) at
          (subst (λ (i : ℕ). IsTouchOf (touches_of touched i) p.place u) e p.touch) in
          absurd (slot (ap (λ (x : Touch). slot_of x.word (is_write x.kind))
          (one_touch (touches_of touched c) k t u here there)))
      own e (yes slot) (no at) =
          let there = subst (λ (i : ℕ). IsTouchOf (touches_of touched i) p.place u) e p.touch in
          let r = counts_rise touched (length marks) c p.place k t u h there here (before e at) in
          let v = at_same d u.word (is_write u.kind) slot e in
          omega arith
      own e (no slot) (no at) = stays (λ s q. slot s) (old e at)

      by : Dec (d ≡ c) → u.at.count ≤ slice_index (last_of new u.word (is_write u.kind)) d
      by (no ne) = stays (λ s q. ne (q ∙ core_is))
          (else_past touched places c inside k d u ne (past_else touched places c inside (k + 1) d u ne p))
      by (yes e) = own e (ℕ_discrete (slot_of u.word (is_write u.kind)) (slot_of t.word (is_write t.kind)))
          (ℕ_discrete p.place k)

  real_on : (d word : ℕ) (writes : Bool) → 1 ≤ slice_index (last_of new word writes) d →
      IsMarkOf touched (slice_set places c (k + 1)) d word writes (slice_index (last_of new word writes) d)
  real_on d word writes some = by (ℕ_discrete (slot_of word writes) (slot_of t.word (is_write t.kind)))
      (ℕ_discrete d c)
    where
      stays : (slot_of word writes ≡ slot_of t.word (is_write t.kind) → d ≡ t.at.core → ⊥) →
          IsMarkOf touched (slice_set places c (k + 1)) d word writes (slice_index (last_of new word writes) d)
      stays other =
          let e = n.others d word writes other in
          let old = m.real d word writes (omega arith) in
          record {
            touch = old.touch;
            past = past_more touched places c inside k d old.touch old.past;
            word_is = old.word_is;
            writes_is = old.writes_is;
            count_is = old.count_is ∙ sym e;
          }

      by : Dec (slot_of word writes ≡ slot_of t.word (is_write t.kind)) → Dec (d ≡ c) →
          IsMarkOf touched (slice_set places c (k + 1)) d word writes (slice_index (last_of new word writes) d)
      by (no slot) e = stays (λ s q. slot s)
      by (yes slot) (no ne) = stays (λ s q. ne (q ∙ core_is))
      by (yes slot) (yes e) =
          let apart = slot_apart word t.word writes (is_write t.kind) slot in
          record {
            touch = t;
            past = subst (λ (i : ℕ). IsPast touched (slice_set places c (k + 1)) i t) (sym e)
                (here_past touched places c inside (k + 1) k t (omega arith) here);
            word_is = sym apart.0;
            writes_is = sym apart.1;
            count_is = sym (at_same d word writes slot e);
          }

  pub marked_on : AreMarked touched (slice_set places c (k + 1)) new
  marked_on = record { last = last_on; real = real_on }

-- ---- what a clock covers

module _ (touched : List (List Touch)) (places : List ℕ) (c k : ℕ) (t : Touch) (marks : List (List ℕ))
    (clock : List ℕ) (all : ℕ) (h : AreWithin touched all) (inside : c < length places)
    (m : AreMarked touched (slice_set places c k) marks) (here : IsTouchOf (touches_of touched c) k t) where
  own_core : t.at.core ≡ c
  own_core = h.core c k t here

  -- a marked touch that isn't covered
  above_open : (until d : ℕ) (writes : Bool) → slice_index places c ≤ k → t.at.count ≤ until →
      IsAbove (last_of marks t.word writes) clock t.at.core d → (writes ≡ true) ⊎ IsTrue (is_write t.kind) →
      IsOpen touched places c until clock
  above_open until d writes from within above kinds =
      let over = above.above in
      let real = m.real d t.word writes (omega arith) in
      let u = real.touch in
      let ne : d ≢ c = λ e. above.other (e ∙ sym own_core) in
      let core : u.at.core ≡ d = h.core d real.past.place u real.past.touch in
      record {
        first = u;
        second = t;
        core = d;
        place = k;
        past = past_else touched places c inside k d u ne real.past;
        from = from;
        touch = here;
        within = within;
        conflict = ((λ e. above.other (sym core ∙ e)), real.word_is, by kinds real.writes_is);
        open_is = let e = real.count_is in omega arith;
      }
    where
      by : {b : Bool} → (writes ≡ true) ⊎ IsTrue (is_write t.kind) → b ≡ writes →
          IsTrue b ⊎ IsTrue (is_write t.kind)
      by (inl e) is = inl (is ∙ e)
      by (inr w) is = inr w

  pub uncovered_open : (until d : ℕ) → slice_index places c ≤ k → t.at.count ≤ until →
      IsUncovered marks t clock d → IsOpen touched places c until clock
  uncovered_open until d from within (inl above) = above_open until d true from within above (inl refl)
  uncovered_open until d from within (inr w) = above_open until d false from within w.1 (inr w.0)

  -- where none is, each touch in conflict is covered
  pub covered_here : IsCovered marks t clock (length touched) → (d : ℕ) (u : Touch) → IsPast touched places d u →
      Conflicts (as_access u) (as_access t) → u.at.count ≤ slice_index clock d
  covered_here covered d u past conflict = by (is_write u.kind) refl conflict.2
    where
      core : u.at.core ≡ d
      core = h.core d past.place u past.touch

      other : d ≢ t.at.core
      other e = conflict.0 (core ∙ e)

      lt : d < length touched
      lt = has_core touched d past.place u past.touch

      last : u.at.count ≤ slice_index (last_of marks t.word (is_write u.kind)) d
      last = subst (λ (w : ℕ). u.at.count ≤ slice_index (last_of marks w (is_write u.kind)) d) conflict.1
          (m.last d u (else_past touched places c inside k d u (λ e. other (e ∙ sym own_core)) past))

      by : (b : Bool) → is_write u.kind ≡ b → IsTrue (is_write u.kind) ⊎ IsTrue (is_write t.kind) →
          u.at.count ≤ slice_index clock d
      by true e kinds =
          let le : u.at.count ≤ slice_index (last_of marks t.word true) d =
          subst (λ (b : Bool). u.at.count ≤ slice_index (last_of marks t.word b) d) e last in
          let below = covered.writes d lt other in
          omega arith
      by false e (inl w) = absurd (cc)
      by false e (inr w) =
          let le : u.at.count ≤ slice_index (last_of marks t.word false) d =
          subst (λ (b : Bool). u.at.count ≤ slice_index (last_of marks t.word b) d) e last in
          let below = covered.others w d lt other in
          omega arith

  -- where an earlier touch of the run has its word and kind, they are too
  pub known_here : (from : ℕ) → slice_index places c ≤ k →
      ((d : Touch) → slice_index places c < length (touches_of touched c) →
      from ≡ (slice_index_or (touches_of touched c) (slice_index places c) d).at.count) →
      AreCovered touched places (slice_set places c k) c clock → IsKnown marks t from →
      (d : ℕ) (u : Touch) → IsPast touched places d u → Conflicts (as_access u) (as_access t) →
      u.at.count ≤ slice_index clock d
  known_here from start first_is covered known d u past conflict =
      let lt = here.within in
      let inside_list : slice_index places c < length (touches_of touched c) = omega arith in
      let e : Touch = slice_index_or (touches_of touched c) (slice_index places c) t in
      let first : IsTouchOf (touches_of touched c) (slice_index places c) e = record {
        within = inside_list;
        is = get_or_default (touches_of touched c) (slice_index places c) e t inside_list;
      } in
      let some = h.some c (slice_index places c) e first in
      let from_is : from ≡ e.at.count = first_is t inside_list in
      let own = ap (λ (i : ℕ). slice_index (last_of marks t.word (is_write t.kind)) i) own_core in
      let real = m.real c t.word (is_write t.kind) (omega arith) in
      let x = real.touch in
      let p = real.past.place in
      let count = real.count_is in
      let x_core : x.at.core ≡ c = h.core c p x real.past.touch in
      let before : p < k =
      let b = real.past.before in let s = get_or-set_same places c k 0 inside in omega arith in
      let after_ : slice_index places c ≤ p = elim (dec_lt p (slice_index places c)) [
        | yes less ↦
            let r = counts_rise touched all c p (slice_index places c) e x h real.past.touch first less in
            absurd (omega arith)
        | no ge ↦ omega arith
      ] in
      covered d p x u after_ (let s = get_or-set_same places c k 0 inside in omega arith) real.past.touch past
      ((λ q. conflict.0 (q ∙ x_core ∙ sym own_core)), conflict.1 ∙ sym real.word_is, by conflict.2 real.writes_is)
    where
      by : {b : Bool} → IsTrue (is_write u.kind) ⊎ IsTrue (is_write t.kind) → b ≡ is_write t.kind →
          IsTrue (is_write u.kind) ⊎ IsTrue b
      by (inl w) is = inl w
      by (inr w) is = inr (is ∙ w)

-- ---- along a run

-- what holds of the answer, where there is one
pub some_one : {A : Type 0} {P : A → Type 0} (o : Option A) → is_some o ≡ true → IfSome o P → (a : A) × P a
some_one (Some a) e h = (a, h)
some_one None e h = absurd (cc)

pub none_one : {A : Type 0} {P : Type 0} (o : Option A) → is_some o ≡ false → IfNone o P → P
none_one None e h = h
none_one (Some a) e h = absurd (cc)

-- one touch more is covered
pub covered_on : (touched : List (List Touch)) (places : List ℕ) (c k : ℕ) (t : Touch) (clock : List ℕ) →
    c < length places → IsTouchOf (touches_of touched c) k t →
    ((d : ℕ) (u : Touch) → IsPast touched places d u → Conflicts (as_access u) (as_access t) →
    u.at.count ≤ slice_index clock d) → AreCovered touched places (slice_set places c k) c clock →
    AreCovered touched places (slice_set places c (k + 1)) c clock
covered_on touched places c k t clock inside here covered before d i x u from to h past conflict = by (ℕ_discrete i k)
  where
    by : Dec (i ≡ k) → u.at.count ≤ slice_index clock d
    by (yes e) =
        let same : x ≡ t = one_touch (touches_of touched c) k t x here
        (subst (λ (j : ℕ). IsTouchOf (touches_of touched c) j x) e h) in
        covered d u past (subst (λ (y : Touch). Conflicts (as_access u) (as_access y)) same conflict)
    by (no ne) =
        let a = get_or-set_same places c (k + 1) 0 inside in
        let b = get_or-set_same places c k 0 inside in
        before d i x u from (omega arith) h past conflict
