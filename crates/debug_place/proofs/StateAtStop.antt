-- The state at a closed cut is what a way's places play to that lead there from another.
use Rattle.std.proofs.Common.{◌≡◌, inl, inr, ℕ, List, ◌++◌, sym, ap, subst, ◌∙◌, arith}
use Rattle.std.specs.Prelude.{slice_index}
use Rattle.std.proofs.lemmas.Bool.{cases_lt}
use Rattle.std.proofs.lemmas.List.{get_or_past}
use Rattle.rtr_types.specs.declared.cut.Cut.{Cut}
use Rattle.rtr_types.specs.declared.pairs.Which.{Which}
use Rattle.rv_core.specs.declared.outcome.Outcome.{Outcome}
use Rattle.race_log.specs.declared.recording.Recording.{Recording}
use Rattle.race_log.specs.Validity.{Valid}
use Rattle.replay_core.specs.Answers.{cut_of}
use Rattle.replay_core.specs.Orders.{IsReplayOrder, Ordered, counts, counts_in, nought}
use Rattle.replay_core.specs.Plans.{Plan, plan_of}
use Rattle.replay_core.specs.Play.{play, played, start}
use Rattle.replay_core.proofs.Counts.{counts_on}
use Rattle.replay_core.proofs.Lists.{ordered_join, play_on}
use Rattle.replay_core.proofs.Places.{play_law}
use Rattle.cut_replay.specs.ClosedCuts.{count_in, IsClosed}
use Rattle.cut_replay.specs.CutStates.{IsStateAt}
use Rattle.cut_moves.proofs.Fronts.{count_is, order_cut}

module _ (which : Which) (r : Recording) (valid : Valid r) (order : List ℕ)
    (ordered : IsReplayOrder (plan_of which r) order) where
  abbrev p : Plan
  p = plan_of which r

  order_counts : (core : ℕ) → counts nought order core ≡ count_in (cut_of (plan_of which r) (counts nought order)) core
  order_counts core = elim (cases_lt core r.params.cores) [
    | inl below ↦ sym (count_is which r valid (counts nought order) core below)
    | inr past ↦
        let none = (order_cut which r order valid ordered).is_cut.rest core past in
        let most = (play_law p order ordered).within core in
        let outside : slice_index r.totals core ≡ 0 =
        get_or_past r.totals core 0 (let all = valid.each_core in omega arith) in
        omega arith
  ]

  state_there : (cut : Cut) (state : Outcome) → IsStateAt which r cut state →
      cut ≡ cut_of (plan_of which r) (counts nought order) → state ≡ played (plan_of which r) order
  state_there cut state at cut_is =
      (at.every_order order (record {
        ordered = ordered;
        counts_are = λ core. order_counts core ∙ ap (λ (k : Cut). count_in k core) (sym cut_is);
      })).outcome_is

-- from the state at a cut a list plays as behind an order that reaches the cut
module _ (which : Which) (r : Recording) (from : Cut) (s : Outcome) (at : IsStateAt which r from s) (front : List ℕ)
    (ordered : Ordered (plan_of which r) (counts_in s) front) where
  abbrev q : Plan
  q = plan_of which r

  abbrev base : List ℕ
  base = at.some_order.0

  state_is : s ≡ played (plan_of which r) at.some_order.0
  state_is = (at.every_order base at.some_order.1).outcome_is

  counts_are : counts_in s ≡ counts nought at.some_order.0
  counts_are = ap (λ (t : Outcome). counts_in t) state_is ∙ (play_law q base at.some_order.1.ordered).counts

  joined : IsReplayOrder (plan_of which r) (at.some_order.0 ++ front)
  joined = ordered_join q nought base front at.some_order.1.ordered
      (subst (λ (f : ℕ → ℕ). Ordered q f front) counts_are ordered)

  counts_joined : counts (counts_in s) front ≡ counts nought (at.some_order.0 ++ front)
  counts_joined = ap (λ (f : ℕ → ℕ). counts f front) counts_are ∙ sym (counts_on nought base front)

  played_joined : played (plan_of which r) (at.some_order.0 ++ front) ≡ play (plan_of which r) s front
  played_joined = play_on q (start q) base front ∙ ap (λ (t : Outcome). play q t front) (sym state_is)

  -- the cut there is closed
  pub cut_behind : Valid r → IsClosed which r (cut_of (plan_of which r) (counts (counts_in s) front))
  cut_behind valid = subst (λ (f : ℕ → ℕ). IsClosed which r (cut_of q f)) (sym counts_joined)
      (order_cut which r (base ++ front) valid joined)

  -- and its state is what they play to
  pub state_behind : Valid r → (cut : Cut) (state : Outcome) → IsStateAt which r cut state →
      cut ≡ cut_of (plan_of which r) (counts (counts_in s) front) → state ≡ play (plan_of which r) s front
  state_behind valid cut state there cut_is =
      state_there which r valid (base ++ front) joined cut state there
      (cut_is ∙ ap (λ (f : ℕ → ℕ). cut_of q f) counts_joined)
      ∙ played_joined
