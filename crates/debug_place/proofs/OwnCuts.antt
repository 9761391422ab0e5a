-- One is at the cut of its own counts, which is closed; and where it's at a cut, that is the one.
use Rattle.std.proofs.Common.{◌≡◌, inl, inr, ℕ, ◌<◌, List, refl, sym, ap, subst, ◌∙◌, arith}
use Rattle.std.specs.Prelude.{IsTrue, nat_lt, slice_index}
use Rattle.std.proofs.Math.Path.{fun_ext}
use Rattle.std.proofs.lemmas.Bool.{cases_lt, lt-ltb, ltb-true}
use Rattle.std.proofs.lemmas.List.{get_or_past}
use Rattle.rtr_types.specs.declared.cut.Cut.{Cut}
use Rattle.rtr_types.specs.declared.pairs.Which.{Which}
use Rattle.rv_core.specs.declared.outcome.Outcome.{Outcome}
use Rattle.race_log.specs.declared.recording.Recording.{Recording}
use Rattle.race_log.specs.Validity.{Valid}
use Rattle.replay_core.specs.Answers.{UnderWay, cut_of}
use Rattle.replay_core.specs.Laws.{PlayKnown}
use Rattle.replay_core.specs.Orders.{counts, counts_in, nought}
use Rattle.replay_core.specs.Plans.{Plan, plan_of}
use Rattle.replay_core.specs.Play.{played}
use Rattle.replay_core.proofs.Places.{play_law}
use Rattle.replay_audit.specs.Audits.{IsInstrOf}
use Rattle.replay_audit.specs.Determinate.{Decides}
use Rattle.cut_replay.specs.ClosedCuts.{count_in, IsClosed, IsContained}
use Rattle.cut_replay.specs.Dues.{IsOnTheWay}
use Rattle.cut_replay.proofs.Unique.{one_cut}
use Rattle.cut_replay.proofs.Ways.{state_at}
use Rattle.cut_moves.proofs.Fronts.{count_is, order_cut}
use Rattle.cut_moves.specs.Steps.{last_in, next_in}
use Rattle.debug_place.specs.Places.{IsReplayAt}

-- the cut of a replay's own counts
abbrev pub own_cut : Which → Recording → UnderWay → Cut
own_cut which r u = cut_of (plan_of which r) (counts_in u.state)

module _ {which : Which} {r : Recording} {cut : Cut} {u : UnderWay} (way : IsOnTheWay which r cut u) where
  abbrev p : Plan
  p = plan_of which r

  -- what is known of the replay's state
  pub known : PlayKnown (plan_of which r) (counts_in u.state) u.state
  known =
      let by_order : PlayKnown p (counts nought way.order) u.state =
      subst (λ (s : Outcome). PlayKnown p (counts nought way.order) s) (sym way.state_is)
      (play_law p way.order way.ordered) in
      subst (λ (g : ℕ → ℕ). PlayKnown p g u.state) (sym by_order.counts) by_order

  pub same_counts : counts_in u.state ≡ counts nought way.order
  same_counts = ap (λ (s : Outcome). counts_in s) way.state_is ∙ (play_law p way.order way.ordered).counts

  pub own_closed : IsClosed which r (own_cut which r u)
  own_closed = subst (λ (g : ℕ → ℕ). IsClosed which r (cut_of p g)) (sym same_counts)
      (order_cut which r way.order way.valid way.ordered)

  -- the own cut has just the replay's counts
  pub own_count : (core : ℕ) → count_in (own_cut which r u) core ≡ counts_in u.state core
  own_count core = elim (cases_lt core r.params.cores) [
    | inl below ↦ count_is which r way.valid (counts_in u.state) core below
    | inr past ↦
        let none = own_closed.is_cut.rest core past in
        let most = known.within core in
        let outside : slice_index r.totals core ≡ 0 =
        get_or_past r.totals core 0 (let all = way.valid.each_core in omega arith) in
        omega arith
  ]

  own_way : IsOnTheWay which r (own_cut which r u) u
  own_way = record {
    valid = way.valid;
    closed = own_closed;
    plan_is = way.plan_is;
    order = way.order;
    ordered = way.ordered;
    state_is = way.state_is;
    within = λ core.
        let own = own_count core in
        let same : counts_in u.state core ≡ counts nought way.order core = ap (λ (g : ℕ → ℕ). g core) same_counts in
        omega arith;
  }

  pub at_own : (whole : List ℕ) → Decides (plan_of which r) whole → IsReplayAt which r (own_cut which r u) u
  at_own whole decides = record {
    plan_is = way.plan_is;
    closed = own_closed;
    state = state_at own_way whole decides
        (λ core due. let own = own_count core in let below = due.below in absurd (omega arith)) u.state refl;
  }

-- at a cut a replay has its counts
module _ {which : Which} {r : Recording} {cut : Cut} {u : UnderWay} (at : IsReplayAt which r cut u) where
  abbrev q : Plan
  q = plan_of which r

  abbrev order : List ℕ
  order = at.state.some_order.0

  state_is : u.state ≡ played (plan_of which r) at.state.some_order.0
  state_is = (at.state.every_order at.state.some_order.0 at.state.some_order.1).outcome_is

  pub its_count : (core : ℕ) → counts_in u.state core ≡ count_in cut core
  its_count core =
      let all : counts_in u.state ≡ counts nought at.state.some_order.0 =
      ap (λ (s : Outcome). counts_in s) state_is
      ∙ (play_law q at.state.some_order.0 at.state.some_order.1.ordered).counts in
      ap (λ (g : ℕ → ℕ). g core) all ∙ at.state.some_order.1.counts_are core

  pub its_counts : count_in cut ≡ counts_in u.state
  its_counts = fun_ext (λ core. sym (its_count core))

  -- it's on the way to every closed cut that contains this one
  pub on_the_way : (high : Cut) → Valid r → IsClosed which r high → IsContained cut high → IsOnTheWay which r high u
  on_the_way high valid closed within = record {
    valid = valid;
    closed = closed;
    plan_is = at.plan_is;
    order = at.state.some_order.0;
    ordered = at.state.some_order.1.ordered;
    state_is = state_is;
    within = λ core. let here = at.state.some_order.1.counts_are core in let more = within core in omega arith;
  }

  -- and the cut is its own
  pub own_is : Valid r → own_cut which r u ≡ cut
  own_is valid =
      let way = on_the_way cut valid at.closed (λ core. omega arith) in
      one_cut r (own_cut which r u) cut (own_closed way).is_cut at.closed.is_cut
      (λ core. let own = own_count way core in let its = its_count core in omega arith)
      (λ core. let own = own_count way core in let its = its_count core in omega arith)

  pub own_at : Valid r → IsReplayAt which r (own_cut which r u) u
  own_at valid = subst (λ (k : Cut). IsReplayAt which r k u) (sym (own_is valid)) at

-- the cut that a replay tells, where it is at its own
pub told_own : {which : Which} {r : Recording} {u : UnderWay} → IsReplayAt which r (own_cut which r u) u → {cut : Cut} →
    cut ≡ cut_of u.plan (counts_in u.state) → cut ≡ own_cut which r u
told_own {u = u} at is = is ∙ ap (λ (plan : Plan). cut_of plan (counts_in u.state)) at.plan_is

-- ---- the instructions around a cut

module _ {which : Which} {r : Recording} {cut : Cut} {u : UnderWay} (at : IsReplayAt which r cut u) (valid : Valid r)
    (core : ℕ) (inside : core < r.params.cores) (count : ℕ) (count_is : count ≡ counts_in u.state core) where
  here : count ≡ count_in cut core
  here = count_is ∙ its_count at core

  pub next_there : (total : ℕ) → total ≡ slice_index u.plan.totals core →
      (IsTrue (nat_lt count total) → IsInstrOf r (next_in cut core))
      × (IsInstrOf r (next_in cut core) → IsTrue (nat_lt count total))
  next_there total total_is =
      let own = here in
      let planned : slice_index u.plan.totals core ≡ slice_index r.totals core =
      ap (λ (q : Plan). slice_index q.totals core) at.plan_is in (
        λ more. let lt = ltb-true count total more in
            record { core = omega (arith, valid.each_core); some = omega arith; most = omega arith },
        λ there. let most = there.most in lt-ltb count total (omega arith),
      )

  pub last_there : (IsTrue (nat_lt 0 count) → IsInstrOf r (last_in cut core))
      × (IsInstrOf r (last_in cut core) → IsTrue (nat_lt 0 count))
  last_there =
      let own = here in
      let most = at.closed.is_cut.most core inside in (
        λ some. let lt = ltb-true 0 count some in
            record { core = omega (arith, valid.each_core); some = omega arith; most = omega arith },
        λ there. let some = there.some in lt-ltb 0 count (omega arith),
      )
