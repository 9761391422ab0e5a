-- The timeline by rounds is a replay order.
use Rattle.std.proofs.Common.{inl, inr, ◌⊎◌, ◌≡◌, ℕ, zero, suc, ◌+◌, ◌<◌, ◌≤◌, List, [], ◌∷◌, ◌++◌, length, refl, sym}
use Rattle.std.proofs.Common.{subst, arith, true, false, Bool}
use Rattle.std.specs.Prelude.{sum}
use native.Mathlib.Decide.{ℕ_discrete}
use Rattle.replay_core.specs.Plans.{Plan, plan_of}
use Rattle.replay_core.specs.Orders.{bump, counts, nought, is_ready, Sourced, Ready, Ordered, IsWhole}
use Rattle.replay_core.proofs.Ready.{ready_true, ready_is}
use Rattle.replay_core.proofs.Counts.{bump_same, bump_else, counts_on}
use Rattle.replay_core.proofs.Lists.{ordered_on}
use Rattle.replay_core.proofs.Low.{left, left_nought, left_step}
use Rattle.replay_audit.specs.Determinate.{low_order_of}
use Rattle.replay_audit.specs.Laws.{GoesOn}
use Rattle.replay_audit.proofs.OrdersAgree.{every_order_law}
use Rattle.replay_audit.proofs.Front.{sourced_more}
use Rattle.cut_moves.specs.Ways.{with_place}
use Rattle.cut_moves.specs.Rounds.{ready_among, round, rounds_from, rounds_of, timeline_of, RoundsEndLaw}
use Rattle.cut_moves.specs.Rounds.{RoundsOrderedLaw, RoundsWholeLaw}

-- more is done, and of the cores from c on just as much
pub record IsAhead (f g : ℕ → ℕ) (c : ℕ) : Type 0 where
  pub more : (i : ℕ) → f i ≤ g i
  pub same : (i : ℕ) → c ≤ i → g i ≡ f i

ready_more : (p : Plan) (f g : ℕ → ℕ) (c : ℕ) → IsAhead f g c → Ready p f c → Ready p g c
ready_more p f g c ahead r =
    let is = ahead.same c (omega arith) in
    record {
      inside = r.inside;
      below = let x = r.below in omega arith;
      sourced = subst (λ (n : ℕ). Sourced p.edges g c (n + 1)) (sym is)
          (sourced_more p.edges f g c (f c + 1) ahead.more r.sourced);
    }

ahead_on : (f g : ℕ → ℕ) (c : ℕ) → IsAhead f g c → IsAhead f (bump g c) (c + 1)
ahead_on f g c ahead = record {
  more = λ i. up i;
  same = λ i le. let x = bump_else g c i (λ e. omega arith) in let y = ahead.same i (omega arith) in omega arith;
}
  where
    up : (i : ℕ) → f i ≤ bump g c i
    up i = elim (ℕ_discrete i c) [
      | yes e ↦ let x = bump_same g c i e in let y = ahead.more i in omega arith
      | no ne ↦ let x = bump_else g c i ne in let y = ahead.more i in omega arith
    ]

ahead_by : (f g : ℕ → ℕ) (c : ℕ) → IsAhead f g c → IsAhead f g (c + 1)
ahead_by f g c ahead = record { more = ahead.more; same = λ i le. ahead.same i (omega arith) }

pub round_ordered : (p : Plan) (f g : ℕ → ℕ) (c n : ℕ) → IsAhead f g c → Ordered p g (ready_among p f c n)
round_ordered p f g c zero ahead = tt
round_ordered p f g c (suc n) ahead =
    by (is_ready p f c) (ready_true p f c) (round_ordered p f (bump g c) (c + 1) n (ahead_on f g c ahead))
    (round_ordered p f g (c + 1) n (ahead_by f g c ahead))
  where
    by : (t : Bool) → (t ≡ true → Ready p f c) → Ordered p (bump g c) (ready_among p f (c + 1) n) →
        Ordered p g (ready_among p f (c + 1) n) →
        Ordered p g (with_place t c (ready_among p f (c + 1) n))
    by true ready with_it without = (ready_more p f g c ahead (ready refl), with_it)
    by false ready with_it without = without

rounds_ordered_from : (p : Plan) (n : ℕ) (f : ℕ → ℕ) → Ordered p f (rounds_from p n f)
rounds_ordered_from p zero f = tt
rounds_ordered_from p (suc n) f =
    (ordered_on p f (round p f) (rounds_from p n (counts f (round p f)))).1 (
      round_ordered p f f 0 (length p.totals)
          (record { more = λ i. omega arith; same = λ i le. refl }),
      rounds_ordered_from p n (counts f (round p f)),
    )

pub rounds_ordered : RoundsOrderedLaw
unfolding timeline_of
rounds_ordered p = rounds_ordered_from p (sum p.totals) nought

-- ---- the end

-- the places of a replay order are no longer left
pub left_after : (p : Plan) (f : ℕ → ℕ) (xs : List ℕ) → Ordered p f xs →
    left p.totals (counts f xs) 0 + length xs ≡ left p.totals f 0
left_after p f [] o = omega arith
left_after p f (c ∷ cs) o =
    let a = left_after p (bump f c) cs o.1 in
    let b = left_step p.totals f 0 c c (omega arith) o.0.inside o.0.below in
    omega arith

-- of the n cores from c on none is ready
abbrev NoneReady : Plan → (ℕ → ℕ) → (c n : ℕ) → Type 0
NoneReady p f c n = (d : ℕ) → c ≤ d → d < c + n → Ready p f d → ⊥

-- a round has a place, or no core is ready
some_or_none : (p : Plan) (f : ℕ → ℕ) (c n : ℕ) →
    (1 ≤ length (ready_among p f c n)) ⊎ ((ready_among p f c n ≡ []) × NoneReady p f c n)
some_or_none p f c zero = inr (refl, λ d from to r. absurd (omega arith))
some_or_none p f c (suc n) = by (is_ready p f c) (λ r. ready_is p f c r) (some_or_none p f (c + 1) n)
  where
    by : (t : Bool) → (Ready p f c → t ≡ true) →
        (1 ≤ length (ready_among p f (c + 1) n)) ⊎ ((ready_among p f (c + 1) n ≡ []) × NoneReady p f (c + 1) n) →
        (1 ≤ length (with_place t c (ready_among p f (c + 1) n)))
        ⊎ ((with_place t c (ready_among p f (c + 1) n) ≡ []) × NoneReady p f c (suc n))
    by true is h = inl (omega arith)
    by false is (inl some) = inl some
    by false is (inr none) = inr (
      none.0,
      λ d from to r. elim (ℕ_discrete c d) [
        | yes e ↦ let k = is (subst (λ (x : ℕ). Ready p f x) (sym e) r) in absurd (cc)
        | no ne ↦ none.1 d (omega arith) (omega arith) r
      ],
    )

-- where no core is ready no round has a place
pub no_rounds : (p : Plan) (n : ℕ) (f : ℕ → ℕ) → round p f ≡ [] → rounds_from p n f ≡ []
no_rounds p zero f none = refl
no_rounds p (suc n) f none = rw none (no_rounds p n f none)

abbrev NoneLeft : Plan → (ℕ → ℕ) → Type 0
NoneLeft p f = (c : ℕ) → Ready p f c → ⊥

ends : (p : Plan) (n : ℕ) (f : ℕ → ℕ) → left p.totals f 0 ≤ n → NoneLeft p (counts f (rounds_from p n f))
ends p zero f le = λ c r. let a = left_step p.totals f 0 c c (omega arith) r.inside r.below in absurd (omega arith)
ends p (suc n) f le =
    by (some_or_none p f 0 (length p.totals)) (λ some. ends p n (counts f (round p f)) some)
  where
    less : left p.totals (counts f (round p f)) 0 + length (round p f) ≡ left p.totals f 0
    less = left_after p f (round p f)
        (round_ordered p f f 0 (length p.totals) (record { more = λ i. omega arith; same = λ i le. refl }))

    by : (1 ≤ length (round p f)) ⊎ ((round p f ≡ []) × NoneReady p f 0 (length p.totals)) →
        (left p.totals (counts f (round p f)) 0 ≤ n →
        NoneLeft p (counts (counts f (round p f)) (rounds_from p n (counts f (round p f))))) →
        NoneLeft p (counts f (round p f ++ rounds_from p n (counts f (round p f))))
    by (inl some) go = subst (λ (g : ℕ → ℕ). NoneLeft p g)
        (sym (counts_on f (round p f) (rounds_from p n (counts f (round p f))))) (go (let a = less in omega arith))
    by (inr none) go = subst (λ (l : List ℕ). NoneLeft p (counts f (l ++ rounds_from p n (counts f l)))) (sym none.0)
        (subst (λ (l : List ℕ). NoneLeft p (counts f l)) (sym (no_rounds p n f none.0))
        (λ c r. none.1 c (omega arith) (let i = r.inside in omega arith) r))

pub rounds_end : RoundsEndLaw
unfolding timeline_of
rounds_end p = ends p (sum p.totals) nought (let a = left_nought p.totals 0 in omega arith)

-- ---- whole

pub rounds_whole : RoundsWholeLaw
rounds_whole which r valid determinate =
    by (every_order_law which r (low_order_of which r) (rounds_of which r) valid determinate
    (rounds_ordered (plan_of which r))).further
  where
    by : IsWhole (plan_of which r) (rounds_of which r) ⊎ GoesOn (plan_of which r) (rounds_of which r) →
        IsWhole (plan_of which r) (rounds_of which r)
    by (inl whole) = whole
    by (inr on) = absurd (rounds_end (plan_of which r) on.0 on.1)
