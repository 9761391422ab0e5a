-- The rule at the start, where the first view owns all cores.
use Rattle.std.proofs.Common.{inl, inr, ◌⊎◌, ⊎_elim, length-append, ◌≡◌, ℕ, subst, zero, suc, ◌+◌, ◌-◌, ◌<◌, List, []}
use Rattle.std.proofs.Common.{◌∷◌, ◌++◌, length, take, drop, replicate, sym, refl, ap, ◌∙◌, arith}
use Rattle.std.proofs.lemmas.List.{length-replicate}
use Rattle.std.specs.Prelude.{Some, None, slice_get, slice_index}
use Rattle.std.proofs.lemmas.List.FromFn.{length-map-range_with_len}
use Rattle.std.proofs.lemmas.Option.{none-some}
use mathlib.Core.Option.{some, some-injective, some-ne-none}
use lib.ListN.{get_elem?}
use Rattle.image_mem.specs.Contents.{opening_word, opening_words}
use Rattle.race_log.specs.declared.recording.Recording.{Recording}
use Rattle.race_log.specs.Validity.{Valid}
use Rattle.rv_core.specs.declared.core_state.Core.{Core}
use Rattle.rv_core.specs.States.{starting}
use Rattle.rv_core.proofs.LawLemmas.{start_law}
use Rattle.replay_core.specs.Plans.{Plan}
use Rattle.replay_core.specs.Play.{start, core_at}
use Rattle.replay_core.proofs.Places.{play_start_law}
use Rattle.replay_table.specs.declared.view.Own.{Own}
use Rattle.replay_table.specs.declared.view.View.{View}
use Rattle.replay_table.specs.Rule.{Owns, Agrees, seen_of, IsRecorded, TableRule}
use Rattle.replay_table.specs.Seats.{Opening, Past, Tied}
use Rattle.replay_table.specs.Kinds.{without_first, first_alone, own_from, first_own, first_view, rest_view, SplitsView}
use Rattle.rtr_types.proofs.Ranges.{zero_at}

-- a recording's cores are as many as its totals
pub cores_are : {r s : Recording} → r ≡ s → Valid s → r.params.cores ≡ length s.totals
cores_are is valid = ap (λ (x : Recording). x.params.cores) is ∙ sym valid.each_core

first-id : (p : Plan) (c : ℕ) → (first_own p c).core.id ≡ c
first-id p c = (start_law c p.limit).0

own-at : (p : Plan) (c n k : ℕ) (x : Own) → get_elem? (own_from p c n) k ≡ some x → (k < n) × (x ≡ first_own p (c + k))
own-at p c zero k x e = absurd (some-ne-none x (sym e))
own-at p c (suc n) zero x e = let q : c ≡ c + 0 = omega arith in
    (omega arith, sym (some-injective _ x e) ∙ ap (first_own p) q)
own-at p c (suc n) (suc k) x e = let a = own-at p (c + 1) n k x e in let b = a.0 in
    let q : (c + 1) + k ≡ c + suc k = omega arith in
    (omega arith, a.1 ∙ ap (first_own p) q)

own-has : (p : Plan) (c n k : ℕ) → k < n → get_elem? (own_from p c n) k ≡ some (first_own p (c + k))
own-has p c zero k h = absurd (omega arith)
own-has p c (suc n) zero h = let q : c ≡ c + 0 = omega arith in ap (λ (i : ℕ). some (first_own p i)) q
own-has p c (suc n) (suc k) h = let q : (c + 1) + k ≡ c + suc k = omega arith in
    own-has p (c + 1) n k (omega arith) ∙ ap (λ (i : ℕ). some (first_own p i)) q

agrees-first : (p : Plan) (k : ℕ) → k < length p.totals → Agrees p [] (first_own p k)
agrees-first p k h = let id = first-id p k in record {
  count = sym (start_law k p.limit).2;
  core = ap (λ (i : ℕ). core_at (start p) i) id ∙ (play_start_law p).core k h;
  loads = (play_start_law p).loads (first_own p k).core.id;
  touched = refl;
}

abbrev one-view : Plan → List View
one-view p = first_view p ∷ []

owns-first : (p : Plan) (j k : ℕ) (x : Own) → Owns (one-view p) j k x → (j ≡ 0) × (k < length p.totals)
    × (x ≡ first_own p k)
owns-first p zero k x ow =
    let e : get_elem? (own_from p 0 (length p.totals)) k ≡ some x = subst (λ (y : View). get_elem? y.owned k ≡ some x)
    (sym (some-injective _ ow.0 ow.1))
    ow.2 in
    let a = own-at p 0 (length p.totals) k x e in
    let q : 0 + k ≡ k = omega arith in
    (refl, a.0, a.1 ∙ ap (first_own p) q)
owns-first p (suc j) k x ow = absurd (some-ne-none ow.0 (sym ow.1))

first-seen : (p : Plan) (j : ℕ) (x : View) → get_elem? (one-view p) j ≡ some x → (i : ℕ) → seen_of x i ≡ 0
first-seen p zero x e i = ap (λ (y : View). seen_of y i) (sym (some-injective _ x e)) ∙ zero_at (length p.totals) i
first-seen p (suc j) x e i = absurd (some-ne-none x (sym e))

first-free : (p : Plan) (j : ℕ) (x : View) (u : ℕ) → get_elem? (one-view p) j ≡ some x → x.held ≡ Some u → ⊥
first-free p zero x u e q = none-some u (ap (λ (y : View). y.held) (some-injective _ x e) ∙ q)
first-free p (suc j) x u e q = absurd (some-ne-none x (sym e))

pub first_rule : (p : Plan) (words : List ℕ) (homes : List _) → IsRecorded p → Opening (opening_words p.image)
    (length p.totals) words
    → TableRule p (record { words = words; homes = homes; views = first_view p ∷ [] })
first_rule p words homes recorded open_ = let all = length-map-range_with_len (opening_word p.image) 0 p.image.words
    in record {
      recorded = recorded;
      wide = let a = open_.wide in omega arith;
      fits = open_.fits;
      inside = λ j k x ow. let a = owns-first p j k x ow in let b = a.1 in
          let q : x.core.id ≡ k = ap (λ (y : Own). y.core.id) a.2 ∙ first-id p k in omega arith;
      one = λ c lt. let q : 0 + c ≡ c = omega arith in (
        0,
        c,
        first_own p c,
        (
          first_view p,
          refl,
          own-has p 0 (length p.totals) c lt
              ∙ ap (λ (i : ℕ). some (first_own p i)) q,
        ),
        first-id p c,
      );
      alone = λ j k x j' k' x' ow ow' e. let a = owns-first p j k x ow in let b = owns-first p j' k' x' ow' in (
        a.0 ∙ sym b.0,
        sym (first-id p k) ∙ sym (ap (λ (y : Own). y.core.id) a.2) ∙ e ∙ ap (λ (y : Own). y.core.id) b.2
            ∙ first-id p k',
      );
      order = (
        [],
        record {
          ordered = tt;
          plays = tt;
          cores = λ j k x ow. let a = owns-first p j k x ow in
              subst (λ (y : Own). Agrees p [] y) (sym a.2) (agrees-first p k a.1);
          memory = λ w lt. open_.memory_is w (omega arith);
        },
      );
      done = λ j k x ow. let a = owns-first p j k x ow in let q = ap (λ (y : Own). y.published) a.2 in
          let z : slice_index words (p.image.words + x.core.id) ≡ 0 = ap (λ (n : ℕ). slice_index words (n + x.core.id))
          (sym all)
          ∙ open_.done x.core.id in (omega arith, omega arith);
      seen = λ j x e i. let a = first-seen p j x e i in omega arith;
      held = λ j x u e q. absurd (first-free p j x u e q);
    }

pub drop_own : (p : Plan) (n c : ℕ) → c < n → drop 1 (own_from p c (n - c)) ≡ own_from p (c + 1) (n - (c + 1))
drop_own p n c lt = let e : n - c ≡ suc (n - (c + 1)) = omega arith in ap (λ (m : ℕ). drop 1 (own_from p c m)) e

pub take_own : (p : Plan) (n c : ℕ) → c < n → take 1 (own_from p c (n - c)) ≡ first_own p c ∷ []
take_own p n c lt = let e : n - c ≡ suc (n - (c + 1)) = omega arith in ap (λ (m : ℕ). take 1 (own_from p c m)) e

-- the seat of core c, as it is dealt
pub first_tied : (p : Plan) (c : ℕ) (past : Past) (sees : List ℕ) (v : View) → v ≡ first_alone (rest_view p c)
    → c < length p.totals
    → past.core ≡ starting c p.limit → past.loads ≡ [] → past.touched ≡ [] → sees ≡ replicate (length p.totals) 0
    → Tied p past sees None v
first_tied p c past sees v is inside core loads touched seen = record {
  own = first_own p c;
  owned = ap (λ (x : View). x.owned) is ∙ take_own p (length p.totals) c inside;
  locals = 0;
  ahead = sym core;
  loads_is = loads;
  touched_is = touched;
  sees_is = ap (λ (x : View). x.seen) is ∙ sym seen;
  holds_is = ap (λ (x : View). x.held) is;
  wide = ap (λ (l : List ℕ). length l) seen ∙ length-replicate (length p.totals) 0;
  inside = let a = ap (λ (x : Core). x.id) core in let b = first-id p c in omega arith;
  within = let a = ap (λ (x : Core). x.count) core in let b = (start_law c p.limit).2 in omega arith;
  all_polls = ap (λ (x : View). length x.polls) is ∙ length-replicate (length p.totals) 0;
  holding = λ value e. absurd (none-some value e);
}

-- what is left when c cores have gone may be split: nothing is held, and no core has executed an instruction
pub rest_splits : (p : Plan) (c : ℕ) (v : View) → v ≡ rest_view p c → SplitsView v (without_first v) (first_alone v)
rest_splits p c v is = record {
  held = ap (λ (x : View). x.held) is;
  fresh = λ k o at.
      let e : get_elem? (own_from p c (length p.totals - c)) k ≡ some o = subst
      (λ (x : View). get_elem? x.owned k ≡ some o) is at in
      ap (λ (x : Own). x.core.count) (own-at p c (length p.totals - c) k o e).1 ∙ (start_law (c + k) p.limit).2;
  left_is = refl;
  right_is = refl;
}

-- ---- the seats that were dealt

pub get_end : {A : Type 0} → (xs : List A) (a x : A) (k : ℕ) → slice_get (xs ++ a ∷ []) k ≡ Some x
    → (slice_get xs k ≡ Some x) ⊎ ((k ≡ length xs) × (a ≡ x))
get_end [] a x zero e = inr (refl, cc)
get_end [] a x (suc k) e = absurd cc
get_end (y ∷ ys) a x zero e = inl e
get_end (y ∷ ys) a x (suc k) e = ⊎_elim (λ t. inl t) (λ t. inr (ap suc t.0, t.1)) (get_end ys a x k e)

pub dealt_more : {A : Type 0} (P : ℕ → A → Type 0) (n : ℕ) (xs ys : List A) (a : A) → ys ≡ xs ++ a ∷ [] → length xs ≡ n
    → ((k : ℕ) (x : A) → slice_get xs k ≡ Some x → P k x) → P n a → (k : ℕ) (x : A) → slice_get ys k ≡ Some x → P k x
dealt_more P n xs ys a e len each one k x is =
    ⊎_elim (λ h. each k x h) (λ h. let at : n ≡ k = omega arith in
    subst (λ (y : _). P k y) h.1 (subst (λ (i : ℕ). P i a) at one))
    (get_end xs a x k (subst (λ (l : List _). slice_get l k ≡ Some x) e is))

pub longer : {A : Type 0} (xs ys : List A) (a : A) (n : ℕ) → ys ≡ xs ++ a ∷ [] → length xs ≡ n → length ys ≡ n + 1
longer xs ys a n e len = let b = ap (λ (l : List _). length l) e in let q = length-append xs (a ∷ []) in omega arith
