-- A run along the low order, as the code goes it.
use Rattle.std.proofs.Common.{◌≡◌, ◌∙◌, ℕ, ◌+◌, ◌<◌, true, false, List, [], ◌∷◌, ◌++◌, length, sym, ap, subst}
use Rattle.std.proofs.Common.{replicate}
use Rattle.std.specs.Prelude.{Option, Some, None, slice_set}
use Rattle.rtr_types.specs.declared.cut.Cut.{Cut}
use Rattle.rv_core.specs.declared.outcome.Outcome.{Outcome}
use Rattle.rv_core.specs.Steps.{is_done}
use Rattle.replay_core.specs.declared.answers.Advanced.{Advanced}
use Rattle.replay_core.specs.declared.answers.Advanced.TheVariants as advanced
use Rattle.replay_core.specs.Plans.{Plan}
use Rattle.replay_core.specs.Play.{Given, given_next, need_at, place_given, valued_place, start, valued_short}
use Rattle.replay_core.specs.Orders.{counts_in, Full, is_ready, lowest_ready, low_order}
use Rattle.replay_core.specs.Tallies.{Tallied, count_of}
use Rattle.replay_core.specs.Answers.{UnderWay, Stays, AdvancesGiven, ReplaysValued, EndsAtValued, cut_of}
use Rattle.replay_core.proofs.Ready.{ready_is}
use Rattle.replay_core.proofs.PlaceSteps.{goes}
use Rattle.replay_core.proofs.Fronts.{ValuedGoing, Chosen, chosen, none_chosen, going_on, falls_short}
use Rattle.replay_core.proofs.Fronts.{replays, ends_at, valued_start, valued_tally}
use Rattle.replay_core.proofs.LowCounts.{Counted, counted_start, counted_on}

module _ (given : Given) (p : Plan) (u : UnderWay) (plan_is : u.plan ≡ p) (order : List ℕ)
    (going : ValuedGoing given p order u.state) where
  -- no core is ready any more
  pub ended : lowest_ready u.plan (counts_in u.state) ≡ None → low_order p ≡ order
  ended none = none_chosen given p order u.state going
      (ap (λ (q : Plan). lowest_ready q (counts_in u.state)) (sym plan_is) ∙ none)

  pub whole_at : (outcome : Outcome) → lowest_ready u.plan (counts_in u.state) ≡ None →
      Full u.plan (counts_in u.state) → outcome ≡ u.state → ReplaysValued given p outcome
  whole_at outcome none full is =
      replays given p order u.state outcome going (ended none)
      (subst (λ (q : Plan). Full q (counts_in u.state)) plan_is full) is

  pub stuck_at : (cut : Cut) → lowest_ready u.plan (counts_in u.state) ≡ None → (Full u.plan (counts_in u.state) → ⊥) →
      cut ≡ cut_of u.plan (counts_in u.state) → EndsAtValued given p cut
  stuck_at cut none not_full is =
      ends_at given p order u.state cut going (ended none)
      (λ full. not_full (subst (λ (q : Plan). Full q (counts_in u.state)) (sym plan_is) full))
      (is ∙ ap (λ (q : Plan). cut_of q (counts_in u.state)) plan_is)

  -- a core is
  module _ (c : ℕ) (some : lowest_ready u.plan (counts_in u.state) ≡ Some c) where
    pub choice : Chosen p order u.state c
    choice = chosen given p order u.state c going
        (ap (λ (q : Plan). lowest_ready q (counts_in u.state)) (sym plan_is) ∙ some)

    -- room was made
    module _ (v : UnderWay) (same_plan : v.plan ≡ u.plan) (same_state : v.state ≡ u.state) where
      pub ready_with_room : is_ready v.plan (counts_in v.state) c ≡ true
      ready_with_room = ap (λ (q : Plan). is_ready q (counts_in v.state) c) (same_plan ∙ plan_is)
          ∙ ap (λ (s : Outcome). is_ready p (counts_in s) c) same_state
          ∙ ready_is p (counts_in u.state) c choice.ready

      pub inside_with_room : (w : UnderWay) → w.plan ≡ v.plan → c < length w.plan.totals
      inside_with_room w kept =
          subst (λ (q : Plan). c < length q.totals) (sym (kept ∙ same_plan ∙ plan_is)) choice.ready.inside

      -- the call's answer, at what stood before the room
      advances : (value : Option ℕ) (answer : Advanced) (t : Outcome) → AdvancesGiven v.plan v.state c value answer t →
          AdvancesGiven p u.state c value answer t
      advances value answer t h =
          subst (λ (s : Outcome). AdvancesGiven p s c value answer t) same_state
          (subst (λ (q : Plan). AdvancesGiven q v.state c value answer t) (same_plan ∙ plan_is) h)

      pub short_at : (count : ℕ) (t : Outcome) → Stays v.plan v.state c t → count ≡ counts_in t c →
          valued_short given p (start p) (low_order p) ≡ Some (c, count)
      short_at count t stays is =
          let here : Stays p u.state c t = advances None advanced.Short t stays in
          falls_short given p order u.state c going choice here.done
          ∙ ap (λ (n : ℕ). Some (c, n)) (sym (is ∙ ap (λ (s : Outcome). counts_in s c) here.state))

      -- the core retired its instruction
      module _ (w : UnderWay) (kept : w.plan ≡ v.plan) (value : Option ℕ)
          (value_is : value ≡ given_next given v.state c) (answer : Advanced)
          (advance : AdvancesGiven v.plan v.state c value answer w.state) (not_short : answer ≡ advanced.Short → ⊥)
        where
          gone : (is_done (need_at p u.state c) ≡ false) × (w.state ≡ valued_place given p u.state c)
          gone =
              let one = goes p u.state c value answer w.state (advances value answer w.state advance) not_short in
              let here : value ≡ given_next given u.state c =
              value_is ∙ ap (λ (s : Outcome). given_next given s c) same_state in
              (one.0, one.1 ∙ ap (λ (x : Option ℕ). place_given p u.state c x) here)

          pub still_going : ValuedGoing given p (order ++ c ∷ []) w.state
          still_going = going_on given p order u.state w.state c going choice gone.0 gone.1

-- ---- with a tally beside it

-- the tally and the replay have come along one front of the low order
pub record Together (given : Given) (p : Plan) (order : List ℕ) (t : Tallied) (u : UnderWay) : Type 0 where
  pub counted : Counted p order t
  pub plan_is : u.plan ≡ p
  pub going : ValuedGoing given p order u.state

pub together_start : (given : Given) (p : Plan) (t : Tallied) (u : UnderWay) → t.plan ≡ p →
    t.counts ≡ replicate (length p.totals) 0 → u.plan ≡ p → u.state ≡ start p → Together given p [] t u
together_start given p t u tally_plan counts_is plan_is state_is = record {
  counted = counted_start p t tally_plan counts_is;
  plan_is = plan_is;
  going = valued_start given p u.state state_is;
}

module _ {given : Given} {p : Plan} {order : List ℕ} {t : Tallied} {u : UnderWay} (along : Together given p order t u)
  where
    lowest_same : lowest_ready u.plan (counts_in u.state) ≡ lowest_ready t.plan (count_of t.counts)
    lowest_same = ap (λ (q : Plan). lowest_ready q (counts_in u.state)) (along.plan_is ∙ sym along.counted.plan_is)
        ∙ ap (λ (f : ℕ → ℕ). lowest_ready t.plan f)
        (valued_tally given p order u.state along.going ∙ sym along.counted.tally)

    -- a core is ready, and room was made
    module _ {c : ℕ} (some : lowest_ready t.plan (count_of t.counts) ≡ Some c) (v : UnderWay)
        (same_plan : v.plan ≡ u.plan) (same_state : v.state ≡ u.state) where
      some_here : lowest_ready u.plan (counts_in u.state) ≡ Some c
      some_here = lowest_same ∙ some

      pub ready_here : is_ready v.plan (counts_in v.state) c ≡ true
      ready_here = ready_with_room given p u along.plan_is order along.going c some_here v same_plan same_state

      pub inside_here : (w : UnderWay) → w.plan ≡ v.plan → c < length w.plan.totals
      inside_here w kept =
          inside_with_room given p u along.plan_is order along.going c some_here v same_plan same_state w kept

      pub short_here : (count : ℕ) (x : Outcome) → Stays v.plan v.state c x → count ≡ counts_in x c →
          valued_short given p (start p) (low_order p) ≡ Some (c, count)
      short_here count x stays is =
          short_at given p u along.plan_is order along.going c some_here v same_plan same_state count x stays is

      -- the core retired its instruction, and was counted
      pub together_on : (w : UnderWay) (kept : w.plan ≡ v.plan) (value : Option ℕ) →
          value ≡ given_next given v.state c → (answer : Advanced) →
          AdvancesGiven v.plan v.state c value answer w.state → (answer ≡ advanced.Short → ⊥) → (t' : Tallied) →
          t'.plan ≡ t.plan → t'.counts ≡ slice_set t.counts c (count_of t.counts c + 1) →
          Together given p (order ++ c ∷ []) t' w
      together_on w kept value value_is answer advance not_short t' plan' counts' = record {
        counted = counted_on p order t along.counted c some t' plan' counts';
        plan_is = kept ∙ same_plan ∙ along.plan_is;
        going =
            still_going given p u along.plan_is order along.going c some_here v same_plan same_state w kept value
            value_is answer advance not_short;
      }

    -- no core is ready any more
    module _ (none : lowest_ready t.plan (count_of t.counts) ≡ None) where
      none_here : lowest_ready u.plan (counts_in u.state) ≡ None
      none_here = lowest_same ∙ none

      pub whole_here : (outcome : Outcome) → Full u.plan (counts_in u.state) → outcome ≡ u.state →
          ReplaysValued given p outcome
      whole_here outcome full is =
          whole_at given p u along.plan_is order along.going outcome none_here full is

      pub stuck_here : (cut : Cut) → (Full u.plan (counts_in u.state) → ⊥) →
          cut ≡ cut_of u.plan (counts_in u.state) → EndsAtValued given p cut
      stuck_here cut not_full is =
          stuck_at given p u along.plan_is order along.going cut none_here not_full is
