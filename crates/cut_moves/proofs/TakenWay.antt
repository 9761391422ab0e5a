-- The way that the code takes is the definition's: the places taken so far, with what is on the way of the timeline's
-- places to come, are the way.
use Rattle.std.proofs.Common.{inl, inr, ◌≡◌, ◌⊎◌, ℕ, ◌+◌, ◌<◌, ◌≤◌, Bool, true, false, List, [], ◌∷◌, ◌++◌, length}
use Rattle.std.proofs.Common.{drop, replicate}
use Rattle.std.proofs.Common.{append-nil, append_assoc, refl, sym, ap, ◌∙◌, subst, arith, length-set}
use Rattle.std.proofs.Math.Path.{fun_ext}
use Rattle.std.proofs.lemmas.List.{drop_more, length-replicate}
use Rattle.std.proofs.lemmas.Bool.{cases_lt}
use Rattle.std.proofs.lemmas.Bool.Decides.{nat_tests}
use Rattle.std.specs.Prelude.{slice_index, slice_index_or, slice_set, nat_le, nat_lt, ◌&&◌}
use Rattle.rtr_types.specs.declared.TheConstants.{CORES_MAX}
use Rattle.rtr_types.specs.declared.params.TheConstants.{LIMIT_MAX}
use Rattle.rtr_types.specs.declared.cut.Cut.{Cut}
use Rattle.rtr_types.specs.declared.pairs.Which.{Which}
use Rattle.rtr_types.proofs.Ranges.{zero_at}
use Rattle.race_log.specs.declared.recording.Recording.{Recording}
use Rattle.race_log.specs.Validity.{Valid}
use Rattle.replay_core.specs.Orders.{bump, counts, nought, Ordered}
use Rattle.replay_core.specs.Plans.{Plan, plan_of}
use Rattle.replay_core.specs.Tallies.{count_of}
use Rattle.replay_audit.specs.Determinate.{IsDeterminate}
use Rattle.cut_replay.specs.ClosedCuts.{count_in, IsClosed, IsContained}
use Rattle.cut_moves.specs.Rounds.{rounds_of}
use Rattle.cut_moves.specs.Ways.{way_from, way_of, with_place, LeadsTo, Within}
use Rattle.cut_moves.proofs.Along.{way_ordered, way_counts}
use Rattle.cut_moves.proofs.Rounds.{rounds_ordered, rounds_whole}
use Rattle.cut_moves.proofs.TakenRounds.{bumped}

-- so far the timeline has come to `at`, and its places to come are `rest`
pub record IsGoing (p : Plan) (low high : ℕ → ℕ) (timeline at rest list : List ℕ) : Type 0 where
  pub wide : length at ≡ CORES_MAX
  pub ordered : Ordered p (count_of at) rest
  pub made : list ++ way_from low high (count_of at) rest ≡ way_of low high timeline

pub going_start : (p : Plan) (low high : ℕ → ℕ) (timeline : List ℕ) → Ordered p nought timeline →
    IsGoing p low high timeline (replicate CORES_MAX 0) timeline []
going_start p low high timeline o =
    record {
      wide = length-replicate {A = ℕ} CORES_MAX 0;
      ordered = subst (λ (f : ℕ → ℕ). Ordered p f timeline) (sym none) o;
      made = ap (λ (f : ℕ → ℕ). way_from low high f timeline) none;
    }
  where
    none : count_of (replicate CORES_MAX 0) ≡ nought
    none = fun_ext (λ i. zero_at CORES_MAX i)

module _ (p : Plan) (low high : ℕ → ℕ) (timeline at : List ℕ) (c : ℕ) (rest list : List ℕ)
    (h : IsGoing p low high timeline at (c ∷ rest) list) (few : length p.totals ≤ CORES_MAX) where
  pub place_inside : c < CORES_MAX
  place_inside = let i = h.ordered.0.inside in omega arith

  -- its count is below its total
  pub place_below : count_of at c < slice_index p.totals c
  place_below = h.ordered.0.below

  module _ (new : List ℕ) (is : new ≡ slice_set at c (count_of at c + 1)) where
    on : count_of new ≡ bump (count_of at) c
    on = ap (λ (l : List ℕ). count_of l) is ∙ bumped at c (let i = place_inside in let w = h.wide in omega arith)

    here : (b : Bool) → (nat_le (low c) (count_of at c) && nat_lt (count_of at c) (high c)) ≡ b →
        list ++ with_place b c (way_from low high (count_of new) rest) ≡ way_of low high timeline
    here b t =
        ap (λ (f : ℕ → ℕ). list ++ with_place b c (way_from low high f rest)) on
        ∙ ap (λ (x : Bool). list ++ with_place x c (way_from low high (bump (count_of at) c) rest)) (sym t) ∙ h.made

    pub going_on : low c ≤ count_of at c → count_of at c < high c →
        IsGoing p low high timeline new rest (list ++ c ∷ [])
    going_on le lt = record {
      wide = ap (λ (l : List ℕ). length l) is ∙ length-set at c _ ∙ h.wide;
      ordered = subst (λ (f : ℕ → ℕ). Ordered p f rest) (sym on) h.ordered.1;
      made = append_assoc list (c ∷ []) (way_from low high (count_of new) rest)
          ∙ here true (let a : nat_le (low c) (count_of at c) ≡ true = grind (arith, nat_tests) in
          let b : nat_lt (count_of at c) (high c) ≡ true = grind (arith, nat_tests) in rw (a, b) refl);
    }

    stays : (nat_le (low c) (count_of at c) && nat_lt (count_of at c) (high c)) ≡ false →
        IsGoing p low high timeline new rest list
    stays t = record {
      wide = ap (λ (l : List ℕ). length l) is ∙ length-set at c _ ∙ h.wide;
      ordered = subst (λ (f : ℕ → ℕ). Ordered p f rest) (sym on) h.ordered.1;
      made = here false t;
    }

    pub going_below : count_of at c < low c → IsGoing p low high timeline new rest list
    going_below lt = stays (let a : nat_le (low c) (count_of at c) ≡ false = grind (arith, nat_tests) in rw a refl)

    pub going_above : high c ≤ count_of at c → IsGoing p low high timeline new rest list
    going_above le = stays (let b : nat_lt (count_of at c) (high c) ≡ false = grind (arith, nat_tests) in
        rw b (none (nat_le (low c) (count_of at c))))
      where
        none : (b : Bool) → (b && false) ≡ false
        none true = refl
        none false = refl

-- the place that comes next
pub going_split : (p : Plan) (low high : ℕ → ℕ) (timeline at list : List ℕ) (k : ℕ) → k < length timeline →
    IsGoing p low high timeline at (drop k timeline) list →
    IsGoing p low high timeline at (slice_index_or timeline k 0 ∷ drop (k + 1) timeline) list
going_split p low high timeline at list k lt h =
    subst (λ (l : List ℕ). IsGoing p low high timeline at l list) (drop_more timeline k 0 lt) h

-- a count below a total has room for one more
pub total_small : (r : Recording) → Valid r → (c n : ℕ) → c < length r.totals → n < slice_index r.totals c →
    n + 1 < 4294967296
total_small r valid c n inside below =
    let most = valid.totals c 0 inside in
    let few = valid.params.limit in
    let million : LIMIT_MAX ≡ 1000000 = refl in
    omega arith

pub going_end : (p : Plan) (low high : ℕ → ℕ) (timeline at list : List ℕ) → IsGoing p low high timeline at [] list →
    list ≡ way_of low high timeline
going_end p low high timeline at list h = sym (append-nil list) ∙ h.made

-- ---- from a cut to a closed cut that contains it

module _ (which : Which) (r : Recording) (valid : Valid r) (determinate : IsDeterminate which r) (low high : Cut)
    (within : IsContained low high) (closed : IsClosed which r high) (list : List ℕ)
    (is : list ≡ way_of (count_in low) (count_in high) (rounds_of which r)) where
  pub ordered_way : Ordered (plan_of which r) (count_in low) list
  ordered_way = subst (λ (l : List ℕ). Ordered (plan_of which r) (count_in low) l) (sym is)
      (way_ordered (plan_of which r) (count_in low) (count_in high) (rounds_of which r)
      (rounds_ordered (plan_of which r)) (λ e has le. closed.sources e.from e.to has le) within)

  pub in_totals : Within (count_in high) (counts nought (rounds_of which r))
  in_totals i = by (cases_lt i r.params.cores)
    where
      by : (i < r.params.cores) ⊎ (r.params.cores ≤ i) → count_in high i ≤ counts nought (rounds_of which r) i
      by (inl lt) =
          let e = (rounds_whole which r valid determinate).each i (let a = valid.each_core in omega arith) in
          let m = closed.is_cut.most i lt in
          omega arith
      by (inr le) = let z = closed.is_cut.rest i le in omega arith

  pub leading_way : LeadsTo (count_in low) (count_in high) list
  leading_way = subst (λ (l : List ℕ). LeadsTo (count_in low) (count_in high) l) (sym is)
      (way_counts (count_in low) (count_in high) (rounds_of which r) within in_totals)
