-- The state at a closed cut: what holds of it, and that of the cut with one instruction more.
use Rattle.std.proofs.Common.{inl, inr, ◌≡◌, ◌⊎◌, ◌≢◌, ℕ, ◌+◌, ◌<◌, ◌≤◌, true, List, [], ◌∷◌, ◌++◌, length, refl, sym}
use Rattle.std.proofs.Common.{ap}
use Rattle.std.proofs.Common.{◌∙◌, subst, arith, length-set, get_or-set_same, get_or-set_other}
use Rattle.std.specs.Prelude.{slice_index, slice_set}
use Rattle.std.proofs.lemmas.Bool.{cases_lt}
use native.Mathlib.Decide.{ℕ_discrete}
use Rattle.rtr_types.specs.declared.cut.Cut.{Cut}
use Rattle.rtr_types.specs.declared.pairs.Which.{Which}
use Rattle.race_log.specs.declared.recording.Recording.{Recording}
use Rattle.race_log.specs.Validity.{Valid}
use Rattle.replay_core.specs.Answers.{cut_of}
use Rattle.replay_core.specs.Orders.{bump, counts, counts_in, nought, is_ready, IsReplayOrder, Ready}
use Rattle.replay_core.specs.Plans.{Plan, plan_of}
use Rattle.replay_core.specs.Play.{place, start}
use Rattle.replay_core.proofs.Counts.{bump_else, bump_same, counts_on}
use Rattle.replay_core.proofs.Lists.{one_more, play_on}
use Rattle.replay_core.proofs.Places.{play_law}
use Rattle.replay_core.proofs.Ready.{ready_true}
use Rattle.replay_audit.specs.Determinate.{IsDeterminate, low_order_of}
use Rattle.cut_replay.specs.ClosedCuts.{count_in, IsClosed, IsCutOf}
use Rattle.cut_replay.specs.CutStates.{IsStateAt, Reaches}
use Rattle.cut_replay.proofs.Orders.{one_state, plays_to}
use Rattle.cut_replay.proofs.Unique.{one_cut}
use Rattle.cut_moves.specs.Ways.{way_of}
use Rattle.cut_moves.proofs.Fronts.{count_is, order_cut}
use Rattle.cut_index.specs.Standings.{reached}
use Rattle.cut_index.proofs.HeldAccesses.{way_reaches}

-- a cut with an order's counts is the order's
module _ (which : Which) (r : Recording) (valid : Valid r) (order : List ℕ)
    (ordered : IsReplayOrder (plan_of which r) order) (cut : Cut) (is_cut : IsCutOf r cut)
    (counts_are : (core : ℕ) → counts nought order core ≡ count_in cut core) where
  pub order_cut_is : cut_of (plan_of which r) (counts nought order) ≡ cut
  order_cut_is = one_cut r (cut_of (plan_of which r) (counts nought order)) cut
      (order_cut which r order valid ordered).is_cut is_cut
      (λ core. let e = same core (cases_lt core r.params.cores) in omega arith)
      (λ core. let e = same core (cases_lt core r.params.cores) in omega arith)
    where
      same : (core : ℕ) → (core < r.params.cores) ⊎ (r.params.cores ≤ core) →
          count_in (cut_of (plan_of which r) (counts nought order)) core ≡ count_in cut core
      same core (inl lt) = count_is which r valid (counts nought order) core lt ∙ counts_are core
      same core (inr past) = (order_cut which r order valid ordered).is_cut.rest core past
          ∙ sym (is_cut.rest core past)

  pub order_closed : IsClosed which r cut
  order_closed = subst (λ (k : Cut). IsClosed which r k) order_cut_is (order_cut which r order valid ordered)

module _ (which : Which) (r : Recording) (valid : Valid r) (determinate : IsDeterminate which r) (cut : Cut)
    (closed : IsClosed which r cut) where
  abbrev p : Plan
  p = plan_of which r

  abbrev way : List ℕ
  way = way_of nought (count_in cut) (low_order_of which r)

  reaches : Reaches which r cut (way_of nought (count_in cut) (low_order_of which r))
  reaches = way_reaches which r valid determinate cut closed

  pub reached_at : IsStateAt which r cut (reached which r cut)
  reached_at = record {
    some_order = (way, reaches);
    every_order = λ order h.
        plays_to which r valid (low_order_of which r) determinate cut way order (reached which r cut) reaches refl h;
  }

  reached_counts : counts_in (reached which r cut) ≡ counts nought (way_of nought (count_in cut) (low_order_of which r))
  reached_counts = (play_law p way reaches.ordered).counts

  pub reached_count : (core : ℕ) → counts_in (reached which r cut) core ≡ count_in cut core
  reached_count core = ap (λ (f : ℕ → ℕ). f core) reached_counts ∙ reaches.counts_are core

  pub reached_cut : cut_of (plan_of which r) (counts_in (reached which r cut)) ≡ cut
  reached_cut = ap (λ (f : ℕ → ℕ). cut_of p f) reached_counts
      ∙ order_cut_is which r valid way reaches.ordered cut closed.is_cut reaches.counts_are

  -- ---- one instruction more

  module _ (core : ℕ) (ready : is_ready (plan_of which r) (counts_in (reached which r cut)) core ≡ true) where
    next_ready : Ready (plan_of which r) (counts nought (way_of nought (count_in cut) (low_order_of which r))) core
    next_ready = subst (λ (f : ℕ → ℕ). Ready p f core) reached_counts
        (ready_true p (counts_in (reached which r cut)) core ready)

    pub next_inside : core < r.params.cores
    next_inside = let lt = next_ready.inside in let all = valid.each_core in omega arith

    pub next_below : count_in cut core < slice_index r.totals core
    next_below = let lt = next_ready.below in let same = reaches.counts_are core in omega arith

    longer : IsReplayOrder (plan_of which r) (way_of nought (count_in cut) (low_order_of which r) ++ core ∷ [])
    longer = (one_more p way core reaches.ordered).1 next_ready

    module _ (more : Cut) (cores : more.cores ≡ cut.cores)
        (is : more.counts ≡ slice_set cut.counts core (count_in cut core + 1)) where
      here : count_in more core ≡ count_in cut core + 1
      here = ap (λ (l : List ℕ). slice_index l core) is
          ∙ get_or-set_same cut.counts core (count_in cut core + 1) 0
          (let wide = closed.is_cut.places in let lt = next_inside in let few = valid.params.cores in omega arith)

      there : (i : ℕ) → i ≢ core → count_in more i ≡ count_in cut i
      there i ne = ap (λ (l : List ℕ). slice_index l i) is
          ∙ get_or-set_other cut.counts core i (count_in cut core + 1) 0 ne

      more_counts : (i : ℕ) → counts nought (way_of nought (count_in cut) (low_order_of which r) ++ core ∷ []) i
          ≡ count_in more i
      more_counts i =
          let on : counts nought (way ++ core ∷ []) i ≡ bump (counts nought way) core i =
          ap (λ (g : ℕ → ℕ). g i) (counts_on nought way (core ∷ [])) in
          on ∙ elim (ℕ_discrete i core) [
            | yes e ↦
                bump_same (counts nought way) core i e
                ∙ ap (λ (n : ℕ). n + 1) (reaches.counts_are i ∙ ap (λ (k : ℕ). count_in cut k) e)
                ∙ sym here ∙ ap (λ (k : ℕ). count_in more k) (sym e)
            | no ne ↦ bump_else (counts nought way) core i ne ∙ reaches.counts_are i ∙ sym (there i ne)
          ]

      more_is : IsCutOf r more
      more_is = record {
        cores = cores ∙ closed.is_cut.cores;
        places = ap (λ (l : List ℕ). length l) is ∙ length-set cut.counts core (count_in cut core + 1)
            ∙ closed.is_cut.places;
        most = λ i lt. elim (ℕ_discrete i core) [
          | yes e ↦
              let up : count_in more i ≡ count_in cut core + 1 = ap (λ (k : ℕ). count_in more k) e ∙ here in
              let below = next_below in
              let same : slice_index r.totals i ≡ slice_index r.totals core = ap (λ
              (k : ℕ). slice_index r.totals k) e in
              omega arith
          | no ne ↦ let same = there i ne in let most = closed.is_cut.most i lt in omega arith
        ];
        rest = λ i past.
            let lt = next_inside in
            let same = there i (λ e. omega arith) in
            let none = closed.is_cut.rest i past in
            omega arith;
      }

      pub more_closed : IsClosed which r more
      more_closed = order_closed which r valid (way ++ core ∷ []) longer more more_is more_counts

      pub more_reached : reached which r more ≡ place (plan_of which r) (reached which r cut) core
      more_reached =
          one_state which r valid (low_order_of which r) determinate more
          (way_of nought (count_in more) (low_order_of which r)) (way ++ core ∷ [])
          (way_reaches which r valid determinate more more_closed)
          (record { ordered = longer; counts_are = more_counts })
          ∙ play_on p (start p) way (core ∷ [])
