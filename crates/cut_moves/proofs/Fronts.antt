-- What a replay order has done is a closed cut. A determinate recording has a whole replay order; its fronts that end
-- just before and just behind an instruction are closed cuts with one of its core less, and with exactly it. So neither
-- a step nor a step back moves its core by more than one.
use Rattle.std.proofs.Common.{◌≡◌, ℕ, ◌+◌, ◌<◌, ◌≤◌, ◌⊎◌, inl, inr, List, [], ◌∷◌, ◌++◌, length, cond, true, false}
use Rattle.std.proofs.Common.{refl, ap, ◌∙◌, subst, arith}
use Rattle.std.proofs.lemmas.Bool.{cases_lt}
use Rattle.std.proofs.lemmas.Bool.Decides.{nat_tests}
use Rattle.std.proofs.lemmas.List.{get_or_past}
use Rattle.std.proofs.lemmas.List.FromFn.{length-map-range_with_len, get_or-map-range_with_len}
use Rattle.std.specs.Prelude.{slice_index, nat_lt}
use Rattle.rtr_types.specs.declared.TheConstants.{CORES_MAX}
use Rattle.rtr_types.specs.declared.cut.Cut.{Cut}
use Rattle.rtr_types.specs.declared.instr.Instr.{Instr}
use Rattle.rtr_types.specs.declared.pairs.Which.{Which}
use Rattle.clock_core.proofs.EdgeLists.{contains_among}
use Rattle.race_log.specs.declared.recording.Recording.{Recording}
use Rattle.race_log.specs.Sources.{log_edges}
use Rattle.race_log.specs.Validity.{Valid}
use Rattle.replay_core.specs.Answers.{cut_counts, cut_of}
use Rattle.replay_core.specs.Laws.{PlaceOf}
use Rattle.replay_core.specs.Orders.{counts, nought, IsReplayOrder}
use Rattle.replay_core.specs.Plans.{Plan, plan_of}
use Rattle.replay_core.specs.Play.{start}
use Rattle.replay_core.proofs.Counts.{bump_here, counts_on, place_of}
use Rattle.replay_core.proofs.Lists.{one_more, ordered_on}
use Rattle.replay_core.proofs.Places.{play_law}
use Rattle.replay_audit.specs.Audits.{IsInstrOf}
use Rattle.replay_audit.specs.Determinate.{IsDeterminate, low_order_of}
use Rattle.replay_audit.proofs.OrdersAgree.{tame_play, tame_start}
use Rattle.replay_audit.proofs.Logs.{Closed}
use Rattle.cut_replay.specs.ClosedCuts.{count_in, IsClosed}
use Rattle.cut_replay.proofs.Cuts.{has_within}
use Rattle.cut_moves.specs.Steps.{BackCountLaw, OrderCutLaw, StepCountLaw}
use Rattle.cut_moves.specs.Unions.{intersection_of, union_of}
use Rattle.cut_moves.proofs.Unions.{union_closed, union_least, greater, intersection_closed, intersection_greatest}
use Rattle.cut_moves.proofs.Unions.{lesser}

-- the counts of a cut that is made of a function
pub made_at : (cores : ℕ) (f : ℕ → ℕ) (i : ℕ) → i < CORES_MAX →
    slice_index (cut_counts cores f) i ≡ cond (nat_lt i cores) (f i) 0
made_at cores f i lt =
    get_or-map-range_with_len (λ c. cond (nat_lt c cores) (f c) 0) 0 CORES_MAX i i 0 lt (omega arith)

module _ (which : Which) (r : Recording) (valid : Valid r) (f : ℕ → ℕ) where
  pub count_is : (c : ℕ) → c < r.params.cores → count_in (cut_of (plan_of which r) f) c ≡ f c
  count_is c lt =
      let few = valid.params.cores in
      let all = valid.each_core in
      let t : nat_lt c (length r.totals) ≡ true = grind (arith, nat_tests) in
      made_at (length r.totals) f c (omega arith) ∙ rw t refl

  none_behind : (c : ℕ) → r.params.cores ≤ c → count_in (cut_of (plan_of which r) f) c ≡ 0
  none_behind c le = by (cases_lt c CORES_MAX)
    where
      by : (c < CORES_MAX) ⊎ (CORES_MAX ≤ c) → count_in (cut_of (plan_of which r) f) c ≡ 0
      by (inl lt) =
          let all = valid.each_core in
          let t : nat_lt c (length r.totals) ≡ false = grind (arith, nat_tests) in
          made_at (length r.totals) f c lt ∙ rw t refl
      by (inr past) =
          let long = length-map-range_with_len (λ i. cond (nat_lt i (length r.totals)) (f i) 0) 0 CORES_MAX in
          get_or_past (cut_of (plan_of which r) f).counts c 0 (omega arith)

pub order_cut : OrderCutLaw
order_cut which r order valid o = record {
  is_cut = record {
    cores = valid.each_core;
    places = length-map-range_with_len (λ i. cond (nat_lt i (length r.totals)) (counts nought order i) 0) 0 CORES_MAX;
    most = λ core lt. let e = count_is which r valid (counts nought order) core lt in
        let w = (play_law (plan_of which r) order o).within core in omega arith;
    rest = none_behind which r valid (counts nought order);
  };
  sources = λ from to has le.
      let w = has_within which r from to valid has in
      let there = count_is which r valid (counts nought order) to.core w.pair.target in
      let here = count_is which r valid (counts nought order) from.core w.pair.source in
      let back = closed_so_far from to (contains_among (log_edges which r) from to has) (omega arith) in
      omega arith;
}
  where
    closed_so_far : Closed (log_edges which r) (counts nought order)
    closed_so_far = (tame_play (plan_of which r) (start (plan_of which r)) nought order
        (tame_start which r valid) o).closed

-- ---- the fronts around an instruction

record AreFronts (p : Plan) (at : Instr) : Type 0 where
  before : List ℕ
  ordered : IsReplayOrder p before
  count : counts nought before at.core + 1 ≡ at.count
  with_ordered : IsReplayOrder p (before ++ at.core ∷ [])
  with_count : counts nought (before ++ at.core ∷ []) at.core ≡ at.count

-- a closed cut whose count of a core is such
record ClosedWhere (which : Which) (r : Recording) (core : ℕ) (is : ℕ → Type 0) : Type 0 where
  cut : Cut
  closed : IsClosed which r cut
  count : is (count_in cut core)

module _ (which : Which) (r : Recording) (at : Instr) (valid : Valid r) (determinate : IsDeterminate which r)
    (node : IsInstrOf r at) where
  abbrev p : Plan
  p = plan_of which r

  inside : at.core < r.params.cores
  inside = let lt = node.core in let e = valid.each_core in omega arith

  fronts : AreFronts (plan_of which r) at
  fronts = by (place_of (low_order_of which r) nought at.core at.count (let s = node.some in omega arith)
      (let w = determinate.whole.each at.core node.core in let m = node.most in omega arith))
    where
      by : PlaceOf (low_order_of which r) nought at.core at.count → AreFronts (plan_of which r) at
      by place =
          let split = (ordered_on p nought place.front (at.core ∷ place.rest)).0
          (subst (λ (l : List ℕ). IsReplayOrder p l) place.split determinate.ordered) in
          let more = ap (λ (g : ℕ → ℕ). g at.core) (counts_on nought place.front (at.core ∷ [])) in
          let one = bump_here (counts nought place.front) at.core in
          let before = place.before in
          record {
            before = place.front;
            ordered = split.0;
            count = before;
            with_ordered = (one_more p place.front at.core split.0).1 split.1.0;
            with_count = omega arith;
          }

  -- the closed cut with the instruction and no later one of its core
  upper : ClosedWhere which r at.core (λ n. n ≡ at.count)
  upper = record {
    cut = cut_of p (counts nought (fronts.before ++ at.core ∷ []));
    closed = order_cut which r (fronts.before ++ at.core ∷ []) valid fronts.with_ordered;
    count = count_is which r valid (counts nought (fronts.before ++ at.core ∷ [])) at.core inside ∙ fronts.with_count;
  }

  -- and the one with each earlier instruction and not this one
  lower : ClosedWhere which r at.core (λ n. n + 1 ≡ at.count)
  lower = record {
    cut = cut_of p (counts nought fronts.before);
    closed = order_cut which r fronts.before valid fronts.ordered;
    count = let e = count_is which r valid (counts nought fronts.before) at.core inside in let c = fronts.count in
        omega arith;
  }

pub step_count : StepCountLaw
step_count which r cut to at valid determinate node closed lacks s =
    let up = upper which r at valid determinate node in
    let n : count_in up.cut at.core ≡ at.count = up.count in
    let u = union_least r cut up.cut closed.is_cut up.closed.is_cut in
    let most = s.least (union_of cut up.cut) (union_closed which r cut up.cut closed up.closed) u.first
    (let y = u.second at.core in omega arith) at.core in
    by (greater r cut up.cut closed.is_cut up.closed.is_cut at.core).one n most s.holds
  where
    by : {both above : ℕ} → (both ≡ count_in cut at.core) ⊎ (both ≡ above) → above ≡ at.count →
        count_in to at.core ≤ both → at.count ≤ count_in to at.core → count_in to at.core ≡ at.count
    by (inl e) n most holds = absurd (lacks (omega arith))
    by (inr e) n most holds = omega arith

pub back_count : BackCountLaw
back_count which r cut to at valid determinate node closed has b =
    let low = lower which r at valid determinate node in
    let n : count_in low.cut at.core + 1 ≡ at.count = low.count in
    let u = intersection_greatest r cut low.cut closed.is_cut low.closed.is_cut in
    let least = b.greatest (intersection_of cut low.cut) (intersection_closed which r cut low.cut closed low.closed)
    u.first (λ holds. let y = u.second at.core in omega arith) at.core in
    by (lesser r cut low.cut closed.is_cut low.closed.is_cut at.core).one n least
    (cases_lt (count_in to at.core) at.count)
  where
    by : {common below : ℕ} → (common ≡ count_in cut at.core) ⊎ (common ≡ below) → below + 1 ≡ at.count →
        common ≤ count_in to at.core → (count_in to at.core < at.count) ⊎ (at.count ≤ count_in to at.core) →
        count_in to at.core + 1 ≡ at.count
    by e n least (inr holds) = absurd (b.without holds)
    by (inl e) n least (inl lt) = absurd (omega arith)
    by (inr e) n least (inl lt) = omega arith
