-- The lowest core that is ready, as the counts go on.
use Rattle.std.proofs.Common.{inl, inr, ◌≡◌, ◌≢◌, ◌⊎◌, ℕ, zero, suc, ◌+◌, ◌-◌, ◌<◌, ◌≤◌, true, false, List}
use Rattle.std.proofs.Common.{length, refl, sym, ap, ◌∙◌, subst, arith}
use Rattle.std.proofs.Common.{get_or-set_other}
use Rattle.std.specs.Prelude.{nat_eq, slice_index, slice_set, Option, Some, None}
use Rattle.std.specs.Option.{option_eq}
use Rattle.std.proofs.lemmas.Bool.Decides.{nat_tests}
use Rattle.std.proofs.lemmas.Bool.{cases_Bool}
use native.Mathlib.Decide.{ℕ_discrete}
use Rattle.clock_core.specs.Order.{Among}
use Rattle.clock_core.proofs.EdgeLists.{among_contains}
use Rattle.replay_core.specs.Plans.{Plan}
use Rattle.replay_core.specs.Play.{instr}
use Rattle.replay_core.specs.Orders.{is_ready, is_sourced, lowest, lowest_ready}
use Rattle.replay_core.proofs.Ready.{ready_true, source_within}
use Rattle.replay_core.proofs.Sources.{lowest_on, unmet}
use Rattle.replay_core.specs.Tallies.{Tallied, AreAwaited, IsWanting, Waits, WaitsFor, count_of, next_of}

-- ---- what one core waits for

-- its next instruction has a source that lies above the counts
pub unsourced_at : (t : Tallied) (c : ℕ) (i a : ℕ) → IsWanting t c i a →
    is_sourced t.plan.edges (count_of t.counts) c (count_of t.counts c + 1) ≡ false
unsourced_at t c i a w = sym (unmet t.plan.edges (count_of t.counts) i c (count_of t.counts c + 1)
    (λ met. let le = met a (among_contains t.plan.edges (instr i a) (next_of t.counts c) w.among) in
    let up = w.above in omega arith))

pub unready_at : (t : Tallied) (c : ℕ) (i a : ℕ) → IsWanting t c i a → is_ready t.plan (count_of t.counts) c ≡ false
unready_at t c i a w = by (cases_Bool (is_ready t.plan (count_of t.counts) c))
  where
    by : (is_ready t.plan (count_of t.counts) c ≡ true) ⊎ (is_ready t.plan (count_of t.counts) c ≡ false) →
        is_ready t.plan (count_of t.counts) c ≡ false
    by (inr f) = f
    by (inl y) =
        let le = source_within t.plan.edges (count_of t.counts) c (count_of t.counts c + 1)
        (ready_true t.plan (count_of t.counts) c y).sourced (instr i a)
        (among_contains t.plan.edges (instr i a) (next_of t.counts c) w.among) in
        let up = w.above in
        absurd (omega arith)

pub not_ready : (t : Tallied) (c : ℕ) (until : List ℕ) → Waits t c until →
    is_ready t.plan (count_of t.counts) c ≡ false
not_ready t c until (inr w) = unready_at t c w.of w.count w.wanting
not_ready t c until (inl full) = by (cases_Bool (is_ready t.plan (count_of t.counts) c))
  where
    by : (is_ready t.plan (count_of t.counts) c ≡ true) ⊎ (is_ready t.plan (count_of t.counts) c ≡ false) →
        is_ready t.plan (count_of t.counts) c ≡ false
    by (inr f) = f
    by (inl y) = let lt = (ready_true t.plan (count_of t.counts) c y).below in absurd (omega arith)

-- ---- cores in turn

-- lower counts are awaited as well
pub awaited_lower : (t : Tallied) (c : ℕ) (old until : List ℕ) → AreAwaited t c old →
    ((i : ℕ) → slice_index until i ≤ slice_index old i) → AreAwaited t c until
awaited_lower t c old until h below = record { each = λ d lt. lower d (h.each d lt) }
  where
    lower : (d : ℕ) → Waits t d old → Waits t d until
    lower d (inl full) = inl full
    lower d (inr w) = inr (record {
      of = w.of;
      count = w.count;
      wanting = w.wanting;
      awaited = let le = w.awaited in let b = below w.of in omega arith;
    })

-- one core more waits
pub awaited_more : (t : Tallied) (c : ℕ) (old until : List ℕ) → AreAwaited t c old →
    ((i : ℕ) → slice_index until i ≤ slice_index old i) → Waits t c until → AreAwaited t (c + 1) until
awaited_more t c old until h below waits = record { each = λ d lt. each d lt (ℕ_discrete d c) }
  where
    each : (d : ℕ) → d < c + 1 → Dec (d ≡ c) → Waits t d until
    each d lt (yes e) = subst (λ (j : ℕ). Waits t j until) (sym e) waits
    each d lt (no ne) = (awaited_lower t c old until h below).each d (let e = ne in grind arith)

pub awaited_none : (t : Tallied) (until : List ℕ) → AreAwaited t 0 until
awaited_none t until = record { each = λ d lt. absurd (omega arith) }

-- the one that is found
pub awaited_at : (t : Tallied) (c d : ℕ) (until : List ℕ) → ◌≡◌ {A = Option ℕ} (Some c) (Some d) →
    AreAwaited t c until → AreAwaited t d until
awaited_at t c d until e h = let same : c ≡ d = cc in subst (λ (j : ℕ). AreAwaited t j until) same h

-- a core that is ready is the lowest of those from it on
pub lowest_here : (p : Plan) (f : ℕ → ℕ) (c n : ℕ) → 1 ≤ n → is_ready p f c ≡ true → Some c ≡ lowest p f c n
lowest_here p f c zero pos t = absurd (omega arith)
lowest_here p f c (suc n) pos t = rw t refl

-- there is none where no cores are left
pub lowest_past : (p : Plan) (f : ℕ → ℕ) (c n : ℕ) → n ≡ 0 → ◌≡◌ {A = Option ℕ} None (lowest p f c n)
lowest_past p f c n e = rw e refl

-- cores that aren't ready are passed over
pub lowest_skip : (p : Plan) (f : ℕ → ℕ) (k c n : ℕ) → ((d : ℕ) → c ≤ d → d < c + k → is_ready p f d ≡ false) →
    lowest p f (c + k) n ≡ lowest p f c (k + n)
lowest_skip p f zero c n h =
    let a : c + 0 ≡ c = omega arith in
    let b : 0 + n ≡ n = omega arith in
    ap (λ (d : ℕ). lowest p f d n) a ∙ ap (λ (m : ℕ). lowest p f c m) (sym b)
lowest_skip p f (suc k) c n h =
    let a : c + suc k ≡ (c + 1) + k = omega arith in
    let b : suc k + n ≡ suc (k + n) = omega arith in
    ap (λ (d : ℕ). lowest p f d n) a ∙ lowest_skip p f k (c + 1) n (λ d le lt. h d (omega arith) (omega arith))
    ∙ lowest_on p f c (suc k + n) (k + n) (c + 1) b refl (h c (omega arith) (omega arith))

-- ---- a place more

-- the core is the lowest, by a test
pub low_is : (low : Option ℕ) (c : ℕ) → true ≡ option_eq nat_eq low (Some c) → low ≡ Some c
low_is None c e = absurd (cc)
low_is (Some d) c e = let same : d ≡ c = grind (arith, nat_tests) in ap (λ (k : ℕ). Some k) same

module _ (t u : Tallied) (c n : ℕ) (until : List ℕ) (plan_is : u.plan ≡ t.plan)
    (counts_is : u.counts ≡ slice_set t.counts c n) (here : count_of u.counts c ≡ n) (all : c ≤ length t.plan.totals)
    (h : AreAwaited t c until) (before : count_of u.counts c < slice_index until c) where
  else_is : (i : ℕ) → i ≢ c → count_of u.counts i ≡ count_of t.counts i
  else_is i ne = ap (λ (l : List ℕ). count_of l i) counts_is
      ∙ get_or-set_other t.counts c i n 0 ne

  -- what the cores below wait for is still to come
  pub awaited_still : AreAwaited u c until
  awaited_still = record { each = λ d less. each d less (h.each d less) }
    where
      same : (d : ℕ) → d < c → count_of u.counts d ≡ count_of t.counts d
      same d less = else_is d (λ e. omega arith)

      above : (d : ℕ) → (w : WaitsFor t d until) → Dec (w.of ≡ c) → count_of u.counts w.of < w.count
      above d w (yes e) = let le = w.awaited in
          let lt : count_of u.counts w.of < slice_index until w.of =
          subst (λ (j : ℕ). count_of u.counts j < slice_index until j) (sym e) before in omega arith
      above d w (no ne) = let k = else_is w.of ne in let lt = w.wanting.above in omega arith

      each : (d : ℕ) → d < c → Waits t d until → Waits u d until
      each d less (inl full) = inl (subst (λ (q : Plan). slice_index q.totals d ≤ count_of u.counts d) (sym plan_is)
          (let e = same d less in omega arith))
      each d less (inr w) = inr (record {
        of = w.of;
        count = w.count;
        wanting = record {
          core = w.wanting.core;
          among = subst (λ (q : Plan). Among q.edges (instr w.of w.count) (next_of u.counts d)) (sym plan_is)
              (subst (λ (m : ℕ). Among t.plan.edges (instr w.of w.count) (instr d (m + 1))) (sym (same d less))
              w.wanting.among);
          above = above d w (ℕ_discrete w.of c);
        };
        awaited = w.awaited;
      })

  -- so the lowest is found from the core on
  pub lowest_still : lowest u.plan (count_of u.counts) c (length u.plan.totals - c)
      ≡ lowest_ready u.plan (count_of u.counts)
  lowest_still =
      let e = ap (λ (q : Plan). length q.totals) plan_is in
      let a : 0 + c ≡ c = omega arith in
      let b : c + (length u.plan.totals - c) ≡ length u.plan.totals = omega arith in
      ap (λ (d : ℕ). lowest u.plan (count_of u.counts) d (length u.plan.totals - c)) (sym a)
      ∙ lowest_skip u.plan (count_of u.counts) c 0 (length u.plan.totals - c)
      (λ d le less. not_ready u d until (awaited_still.each d (omega arith)))
      ∙ ap (λ (m : ℕ). lowest u.plan (count_of u.counts) 0 m) b
