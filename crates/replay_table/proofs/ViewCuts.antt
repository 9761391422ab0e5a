-- The rule where views are cut and put together.
use Rattle.std.proofs.Common.{◌≡◌, ℕ, subst, zero, suc, ◌+◌, ◌<◌, ◌≤◌, ◌≢◌, ◌⊎◌, inl, inr, ⊎_elim, List, [], ◌∷◌, ◌++◌}
use Rattle.std.proofs.Common.{length, set, take, drop, sym, refl, ap, ◌∙◌, arith, zero-add}
use Rattle.std.specs.Prelude.{Some, None, slice_index}
use Rattle.std.proofs.lemmas.Option.{none-some}
use mathlib.Core.Option.{some, some-injective, some-ne-none}
use lib.ListN.{get_elem?}
use native.Mathlib.Decide.{ℕ_discrete}
use Rattle.atomic_table.specs.Table.{State, Splits, Joins}
use Rattle.atomic_table.proofs.Lists.{at_set, set_else, at_longer, at_last}
use Rattle.replay_table.specs.declared.view.Own.{Own}
use Rattle.replay_table.specs.declared.view.View.{View}
use Rattle.replay_core.specs.Plans.{Plan}
use Rattle.replay_table.specs.Rule.{Owns, seen_of, Holding, TableRule}
use Rattle.clock_core.specs.Counts.{merged}
use Rattle.replay_table.specs.Kinds.{without_first, first_alone, both, spent, SplitsView, JoinsViews}
use Rattle.replay_table.specs.Laws.{split, joined, SplitKeeps, JoinKeeps, SplitLaw, JoinLaw, StandsFor}
use Rattle.replay_table.proofs.RuleSteps.{set_at}

-- the cores of the views are those of other views, at other places
pub kept_moved : (p : Plan) (s : State ℕ View) (views' : List View) (Back : ℕ → ℕ → ℕ → ℕ → Type 0) → TableRule p s
    → ((j k : ℕ) (x : Own) → Owns views' j k x → (j0 : ℕ) × (k0 : ℕ) × Back j k j0 k0 × Owns s.views j0 k0 x)
    → ((j k j0 k0 j' k' j0' k0' : ℕ) → Back j k j0 k0 → Back j' k' j0' k0' → j0 ≡ j0' → k0 ≡ k0' → (j ≡ j') × (k ≡ k'))
    → ((j0 k0 : ℕ) (x : Own) → Owns s.views j0 k0 x → (j : ℕ) × (k : ℕ) × Owns views' j k x)
    → ((j : ℕ) (x : View) → get_elem? views' j ≡ some x → (i : ℕ) → seen_of x i ≤ slice_index s.words
    (p.image.words + i))
    → ((j : ℕ) (x : View) (u : ℕ) → get_elem? views' j ≡ some x → x.held ≡ Some u → Holding p s.words x u)
    → TableRule p record { words = s.words; homes = s.homes; views = views' }
kept_moved p s views' Back h back one forth seen held =
    let st = h.order.1 in record {
      recorded = h.recorded;
      wide = h.wide;
      fits = h.fits;
      inside = λ j k x ow. let b = back j k x ow in h.inside b.0 b.1 x b.3;
      one = λ c lt. let a = h.one c lt in let f = forth a.0 a.1 a.2 a.3 in (f.0, f.1, a.2, f.2, a.4);
      alone = λ j k x j' k' x' ow ow' e. let b = back j k x ow in let b' = back j' k' x' ow' in
          let q = h.alone b.0 b.1 x b'.0 b'.1 x' b.3 b'.3 e in one j k b.0 b.1 j' k' b'.0 b'.1 b.2 b'.2 q.0 q.1;
      order = (
        h.order.0,
        record {
          ordered = st.ordered;
          plays = st.plays;
          cores = λ j k x ow. let b = back j k x ow in
              st.cores b.0 b.1 x b.3;
          memory = st.memory;
        },
      );
      done = λ j k x ow. let b = back j k x ow in h.done b.0 b.1 x b.3;
      seen = seen;
      held = held;
    }

module _ {A : Type 0} where
  at_after : (l : List A) (a b : A) (j : ℕ) → get_elem? (l ++ a ∷ []) j ≡ some b → (get_elem? l j ≡ some b)
      ⊎ ((j ≡ length l) × (a ≡ b))
  at_after [] a b zero e = inr (refl, some-injective a b e)
  at_after [] a b (suc j) e = absurd (some-ne-none b (sym e))
  at_after (x ∷ xs) a b zero e = inl e
  at_after (x ∷ xs) a b (suc j) e = ⊎_elim (λ t. inl t) (λ t. inr (ap suc t.0, t.1)) (at_after xs a b j e)

  at_drop : (l : List A) (k : ℕ) (x : A) → get_elem? (drop 1 l) k ≡ some x → get_elem? l (suc k) ≡ some x
  at_drop [] k x e = absurd (some-ne-none x (sym e))
  at_drop (y ∷ ys) k x e = e

  at_take : (l : List A) (k : ℕ) (x : A) → get_elem? (take 1 l) k ≡ some x → (k ≡ 0) × (get_elem? l 0 ≡ some x)
  at_take [] k x e = absurd (some-ne-none x (sym e))
  at_take (y ∷ ys) zero x e = (refl, e)
  at_take (y ∷ ys) (suc k) x e = absurd (some-ne-none x (sym e))

  drop_at_suc : (l : List A) (k : ℕ) (x : A) → get_elem? l (suc k) ≡ some x → get_elem? (drop 1 l) k ≡ some x
  drop_at_suc [] k x e = e
  drop_at_suc (y ∷ ys) k x e = e

  take_at_zero : (l : List A) (x : A) → get_elem? l 0 ≡ some x → get_elem? (take 1 l) 0 ≡ some x
  take_at_zero [] x e = e
  take_at_zero (y ∷ ys) x e = e

  at_both : (l m : List A) (k : ℕ) (x : A) → get_elem? (l ++ m) k ≡ some x
      → ((k < length l) × (get_elem? l k ≡ some x)) ⊎ ((i : ℕ) × (k ≡ length l + i) × (get_elem? m i ≡ some x))
  at_both [] m k x e = inr (k, sym (zero-add k), e)
  at_both (y ∷ ys) m zero x e = inl (omega arith, e)
  at_both (y ∷ ys) m (suc k) x e = ⊎_elim (λ t. let a = t.0 in inl (omega arith, t.1)) (λ t. let a = t.1 in
      inr (t.0, omega arith, t.2)) (at_both ys m k x e)

  pub at_later : (l m : List A) (i : ℕ) (x : A) → get_elem? m i ≡ some x → get_elem? (l ++ m) (length l + i) ≡ some x
  at_later [] m i x e = ap (λ (j : ℕ). get_elem? m j) (zero-add i) ∙ e
  at_later (y ∷ ys) m i x e = let q : suc (length ys) + i ≡ suc (length ys + i) = omega arith in
      ap (λ (j : ℕ). get_elem? (y ∷ (ys ++ m)) j) q
      ∙ at_later ys m i x e

  below_length : (l : List A) (i : ℕ) (x : A) → get_elem? l i ≡ some x → i < length l
  below_length [] i x e = absurd (some-ne-none x (sym e))
  below_length (y ∷ ys) zero x e = omega arith
  below_length (y ∷ ys) (suc i) x e = let h = below_length ys i x e in omega arith

abbrev CutBack : ℕ → ℕ → ℕ → ℕ → ℕ → ℕ → Type 0
CutBack id len j k j0 k0 = ((j ≢ id) × (j0 ≡ j) × (k0 ≡ k))
    ⊎ (((j ≡ id) × (j0 ≡ id) × (k0 ≡ suc k)) ⊎ ((j ≡ len) × (k ≡ 0) × (j0 ≡ id) × (k0 ≡ 0)))

cut_one : (id len j k j0 k0 j' k' j0' k0' : ℕ) → CutBack id len j k j0 k0 → CutBack id len j' k' j0' k0' → j0 ≡ j0'
    → k0 ≡ k0' → (j ≡ j') × (k ≡ k')
cut_one id len j k j0 k0 j' k' j0' k0' b b' e f =
    ⊎_elim
    (λ t. ⊎_elim (λ u. (sym t.1 ∙ e ∙ u.1, sym t.2 ∙ f ∙ u.2))
    (λ w. ⊎_elim (λ u. absurd (t.0 (sym t.1 ∙ e ∙ u.1))) (λ u. absurd (t.0 (sym t.1 ∙ e ∙ u.2))) w) b')
    (λ v. ⊎_elim
    (λ t. ⊎_elim (λ u. absurd (u.0 (sym u.1 ∙ sym e ∙ t.1)))
    (λ w. ⊎_elim (λ u. let a = t.2 in let c = u.2 in (t.0 ∙ sym u.0, omega arith))
    (λ u. let a = t.2 in let c = u.3 in absurd (omega arith)) w) b')
    (λ t. ⊎_elim (λ u. absurd (u.0 (sym u.1 ∙ sym e ∙ t.2)))
    (λ w. ⊎_elim (λ u. let a = t.3 in let c = u.2 in absurd (omega arith))
    (λ u. (t.0 ∙ sym u.0, t.1 ∙ sym u.1)) w) b')
    v)
    b

forth_here : (views : List View) (id : ℕ) (v : View) (j0 k0 : ℕ) (x : Own) → get_elem? views id ≡ some v → j0 ≡ id
    → Owns views j0 k0 x
    → (j : ℕ) × (k : ℕ) × Owns (set views id (without_first v) ++ first_alone v ∷ []) j k x
forth_here views id v j0 zero x at e ow =
    let q : get_elem? views id ≡ some ow.0 = subst (λ (i : ℕ). get_elem? views i ≡ some ow.0) e ow.1 in
    let vv : ow.0 ≡ v = some-injective ow.0 v (sym q ∙ at) in
    let l = set views id (without_first v) in (
      length l,
      0,
      (
        first_alone v,
        at_last l (first_alone v) (length l) refl,
        take_at_zero v.owned x
            (subst (λ (y : View). get_elem? y.owned 0 ≡ some x) vv ow.2),
      ),
    )
forth_here views id v j0 (suc k0) x at e ow =
    let q : get_elem? views id ≡ some ow.0 = subst (λ (i : ℕ). get_elem? views i ≡ some ow.0) e ow.1 in
    let vv : ow.0 ≡ v = some-injective ow.0 v (sym q ∙ at) in
    let l = set views id (without_first v) in (
      id,
      k0,
      (
        without_first v,
        at_longer l (first_alone v ∷ []) id (without_first v) (set_at views id v (without_first v) at),
        drop_at_suc v.owned k0 x
            (subst (λ (y : View). get_elem? y.owned (suc k0) ≡ some x) vv ow.2),
      ),
    )

split-back : (s : State ℕ View) (id : ℕ) (v : View) → get_elem? s.views id ≡ some v
    → (j k : ℕ) (x : Own) → Owns (set s.views id (without_first v) ++ first_alone v ∷ []) j k x
    → (j0 : ℕ) × (k0 : ℕ) × CutBack id (length (set s.views id (without_first v))) j k j0 k0 × Owns s.views j0 k0 x
split-back s id v at j k x ow =
    let l = set s.views id (without_first v) in
    ⊎_elim
    (λ t. ⊎_elim
    (λ u. let e : get_elem? (drop 1 v.owned) k ≡ some x = subst (λ (y : View). get_elem? y.owned k ≡ some x) (sym u.1)
    ow.2 in
    (id, suc k, inr (inl (u.0, refl, refl)), (v, at, at_drop v.owned k x e)))
    (λ u. (j, k, inl (u.0, refl, refl), (ow.0, u.1, ow.2)))
    (at_set s.views id j (without_first v) ow.0 t))
    (λ t. let e : get_elem? (take 1 v.owned) k ≡ some x = subst (λ (y : View). get_elem? y.owned k ≡ some x) (sym t.1)
    ow.2 in
    let q = at_take v.owned k x e in
    (id, 0, inr (inr (t.0, q.0, refl, refl)), (v, at, q.1)))
    (at_after l (first_alone v) ow.0 j ow.1)

split-keeps : (p : Plan) (s : State ℕ View) (id : ℕ) (v : View) → TableRule p s → get_elem? s.views id ≡ some v
    → v.held ≡ None
    → TableRule p (split s id (without_first v) (first_alone v))
split-keeps p s id v h at free =
    let l = set s.views id (without_first v) in
    let n = length l in
    let back = split-back s id v at in
    let forth : (j0 k0 : ℕ) (x : Own) → Owns s.views j0 k0 x → (j : ℕ) × (k : ℕ) × Owns (l ++ first_alone v ∷ []) j k
    x = λ j0 k0 x ow.
    elim (ℕ_discrete j0 id) [
      | yes e ↦ forth_here s.views id v j0 k0 x at e ow
      | no ne ↦ (
        j0,
        k0,
        (
          ow.0,
          at_longer l (first_alone v ∷ []) j0 ow.0 (set_else s.views id j0 (without_first v) ne ∙ ow.1),
          ow.2,
        ),
      )
    ] in
    kept_moved p s (l ++ first_alone v ∷ []) (CutBack id n) h back (cut_one id n) forth
    (λ j x e i. ⊎_elim
    (λ t. ⊎_elim (λ u. subst (λ (y : View). seen_of y i ≤ slice_index s.words (p.image.words + i)) u.1
    (h.seen id v at i)) (λ u. h.seen j x u.1 i)
    (at_set s.views id j (without_first v) x t))
    (λ t. subst (λ (y : View). seen_of y i ≤ slice_index s.words (p.image.words + i)) t.1 (h.seen id v at i))
    (at_after l (first_alone v) x j e))
    (λ j x u e q. ⊎_elim
    (λ t. ⊎_elim (λ z. absurd (none-some u (sym free ∙ ap (λ (y : View). y.held) z.1 ∙ q))) (λ z. h.held j x u z.1 q)
    (at_set s.views id j (without_first v) x t))
    (λ t. absurd (none-some u (sym free ∙ ap (λ (y : View). y.held) t.1 ∙ q)))
    (at_after l (first_alone v) x j e))

pub split_keeps : SplitKeeps
split_keeps p s id v left right h cut =
    subst (λ (x : View). TableRule p (split s id x right)) (sym cut.left_is)
    (subst (λ (x : View). TableRule p (split s id (without_first v) x))
    (sym cut.right_is)
    (split-keeps p s id v h.rule h.view cut.held))

pub splits : (p : Plan) (id : ℕ) (v : View) → SplitsView v (without_first v) (first_alone v) → Splits (TableRule p) id
    v (without_first v) (first_alone v)
splits p id v cut s h at = split_keeps p s id v (without_first v) (first_alone v) (record { rule = h; view = at }) cut

abbrev JoinBack : ℕ → ℕ → ℕ → ℕ → ℕ → ℕ → ℕ → Type 0
JoinBack id other n j k j0 k0 = ((j ≢ id) × (j ≢ other) × (j0 ≡ j) × (k0 ≡ k)) ⊎
    (((j ≡ id) × (j0 ≡ id) × (k0 ≡ k) × (k < n)) ⊎ ((j ≡ id) × (j0 ≡ other) × (k ≡ n + k0)))

join_one : (id other n : ℕ) → (other ≢ id) → (j k j0 k0 j' k' j0' k0' : ℕ) → JoinBack id other n j k j0 k0
    → JoinBack id other n j' k' j0' k0' → j0 ≡ j0'
    → k0 ≡ k0' → (j ≡ j') × (k ≡ k')
join_one id other n apart j k j0 k0 j' k' j0' k0' b b' e f =
    ⊎_elim
    (λ t. ⊎_elim (λ u. (sym t.2 ∙ e ∙ u.2, sym t.3 ∙ f ∙ u.3))
    (λ w. ⊎_elim (λ u. absurd (t.0 (sym t.2 ∙ e ∙ u.1))) (λ u. absurd (t.1 (sym t.2 ∙ e ∙ u.1))) w) b')
    (λ v. ⊎_elim
    (λ t. ⊎_elim (λ u. absurd (u.0 (sym u.2 ∙ sym e ∙ t.1)))
    (λ w. ⊎_elim (λ u. (t.0 ∙ sym u.0, sym t.2 ∙ f ∙ u.2)) (λ u. absurd (apart (sym u.1 ∙ sym e ∙ t.1))) w) b')
    (λ t. ⊎_elim (λ u. absurd (u.1 (sym u.2 ∙ sym e ∙ t.1)))
    (λ w. ⊎_elim (λ u. absurd (apart (sym t.1 ∙ e ∙ u.1)))
    (λ u. (t.0 ∙ sym u.0, t.2 ∙ ap (λ (i : ℕ). n + i) f ∙ sym u.2)) w) b')
    v)
    b

merged_most : (a b : List ℕ) (n i : ℕ) → slice_index a i ≤ n → slice_index b i ≤ n → slice_index (merged a b) i ≤ n
merged_most [] b n i h k = k
merged_most (x ∷ xs) [] n i h k = h
merged_most (x ∷ xs) (y ∷ ys) n zero h k = omega arith
merged_most (x ∷ xs) (y ∷ ys) n (suc i) h k = merged_most xs ys n i h k

join-back : (s : State ℕ View) (id other : ℕ) (v w : View) → get_elem? s.views id ≡ some v → get_elem? s.views other ≡
    some w
    → (j k : ℕ) (x : Own) → Owns (set (set s.views id (both v w)) other spent) j k x
    → (j0 : ℕ) × (k0 : ℕ) × JoinBack id other (length v.owned) j k j0 k0 × Owns s.views j0 k0 x
join-back s id other v w at atw j k x ow =
    let l = set s.views id (both v w) in
    ⊎_elim
    (λ t. let e : get_elem? spent.owned k ≡ some x = subst (λ (y : View). get_elem? y.owned k ≡ some x) (sym t.1) ow.2
    in absurd (some-ne-none x (sym e)))
    (λ t. ⊎_elim
    (λ u. let e : get_elem? (v.owned ++ w.owned) k ≡ some x = subst (λ (y : View). get_elem? y.owned k ≡ some x)
    (sym u.1) ow.2 in
    ⊎_elim
    (λ q. (id, k, inr (inl (u.0, refl, refl, q.0)), (v, at, q.1)))
    (λ q. (other, q.0, inr (inr (u.0, refl, q.1)), (w, atw, q.2)))
    (at_both v.owned w.owned k x e))
    (λ u. (j, k, inl (u.0, t.0, refl, refl), (ow.0, u.1, ow.2)))
    (at_set s.views id j (both v w) ow.0 t.1))
    (at_set l other j spent ow.0 ow.1)

join-keeps : (plan : Plan) (state : State ℕ View) (id other : ℕ) (view given : View) → TableRule plan state →
    get_elem? state.views id ≡ some view
    → other ≢ id
    → get_elem? state.views other ≡ some given → TableRule plan (joined state id (both view given) other spent)
join-keeps plan state id other view given holds at apart atw =
    let l = set state.views id (both view given) in
    let l' = set l other spent in
    let n = length view.owned in
    let back = join-back state id other view given at atw in
    let here : get_elem? l' id ≡ some (both view given) = set_else l other id spent (λ e. apart (sym e))
    ∙ set_at state.views id
    view (both view given) at in
    let forth : (j0 k0 : ℕ) (x : Own) → Owns state.views j0 k0 x → (j : ℕ) × (k : ℕ) × Owns l' j k x = λ j0 k0 x ow.
    elim (ℕ_discrete j0 id) [
      | yes e ↦
          let q : get_elem? state.views id ≡ some ow.0 =
          subst (λ (i : ℕ). get_elem? state.views i ≡ some ow.0) e ow.1 in
          let vv : ow.0 ≡ view = some-injective ow.0 view (sym q ∙ at) in
          let o : get_elem? view.owned k0 ≡ some x = subst (λ (y : View). get_elem? y.owned k0 ≡ some x) vv ow.2 in
          (id, k0, (both view given, here, at_longer view.owned given.owned k0 x o))
      | no ne ↦ elim (ℕ_discrete j0 other) [
        | yes e ↦
            let q : get_elem? state.views other ≡ some ow.0 =
            subst (λ (i : ℕ). get_elem? state.views i ≡ some ow.0) e ow.1 in
            let ww : ow.0 ≡ given = some-injective ow.0 given (sym q ∙ atw) in
            let o : get_elem? given.owned k0 ≡ some x = subst (λ (y : View). get_elem? y.owned k0 ≡ some x) ww ow.2 in
            (id, n + k0, (both view given, here, at_later view.owned given.owned k0 x o))
        | no ne' ↦ (
          j0,
          k0,
          (
            ow.0,
            set_else l other j0 spent ne' ∙ set_else state.views id j0 (both view given) ne
                ∙ ow.1,
            ow.2,
          ),
        )
      ]
    ] in
    kept_moved plan state l' (JoinBack id other n) holds back (join_one id other n apart) forth
    (λ j x e i. ⊎_elim
    (λ t. subst (λ (y : View). seen_of y i ≤ slice_index state.words (plan.image.words + i)) t.1 (omega arith))
    (λ t. ⊎_elim
    (λ u. subst (λ (y : View). seen_of y i ≤ slice_index state.words (plan.image.words + i)) u.1
    (merged_most view.seen given.seen (slice_index state.words (plan.image.words + i)) i (holds.seen id view at i)
    (holds.seen other given atw i)))
    (λ u. holds.seen j x u.1 i)
    (at_set state.views id j (both view given) x t.1))
    (at_set l other j spent x e))
    (λ j x u e q. ⊎_elim
    (λ t. absurd (none-some u (ap (λ (y : View). y.held) t.1 ∙ q)))
    (λ t. ⊎_elim (λ z. absurd (none-some u (ap (λ (y : View). y.held) z.1 ∙ q))) (λ z. holds.held j x u z.1 q)
    (at_set state.views id j (both view given) x t.1))
    (at_set l other j spent x e))

pub join_keeps : JoinKeeps
join_keeps p s id other v w m left h apart there join =
    subst (λ (x : View). TableRule p (joined s id x other left)) (sym join.joined_is)
    (subst (λ (x : View). TableRule p (joined s id (both v w) other x))
    (sym join.left_is)
    (join-keeps p s id other v w h.rule h.view apart there))

pub joins : (p : Plan) (id : ℕ) (v : View) (other : ℕ) (w : View) → JoinsViews v w (both v w) spent
    → Joins (TableRule p) id v other w (both v w) spent
joins p id v other w join s h at apart at0 =
    let atw : get_elem? s.views other ≡ some w = sym (set_else s.views id other (both v w) apart) ∙ at0 in
    join_keeps p s id other v w (both v w) spent (record { rule = h; view = at }) apart atw join

-- ---- the orders

pub split_law : SplitLaw
split_law p s id v left right order h cut =
    subst (λ (x : View). StandsFor p (split s id x right) order) (sym cut.left_is)
    (subst (λ (x : View). StandsFor p (split s id (without_first v) x) order) (sym cut.right_is)
    (record {
      ordered = h.stands.ordered;
      plays = h.stands.plays;
      cores = λ j k x ow. let b = split-back s id v h.view j k x ow in
          h.stands.cores b.0 b.1 x b.3;
      memory = h.stands.memory;
    }))

pub join_law : JoinLaw
join_law p s id other v w m left order h apart there join =
    subst (λ (x : View). StandsFor p (joined s id x other left) order) (sym join.joined_is)
    (subst (λ (x : View). StandsFor p (joined s id (both v w) other x) order) (sym join.left_is)
    (record {
      ordered = h.stands.ordered;
      plays = h.stands.plays;
      cores = λ j k x ow. let b = join-back s id other v w h.view there j k x ow in
          h.stands.cores b.0 b.1 x b.3;
      memory = h.stands.memory;
    }))
