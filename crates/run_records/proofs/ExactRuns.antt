-- What is exact along every run.
use Rattle.std.proofs.Common.{◌≡◌, ◌∙◌, refl, sym, ap, subst, ℕ, suc, ◌<◌, Option, Some, None, arith}
use Rattle.std.specs.Prelude.{reverse}
use Rattle.access_times.specs.Times.{times_riding}
use Rattle.access_times.specs.declared.times.Times.{Times}
use Rattle.image_mem.specs.Contents.{Contents}
use Rattle.rtr_types.specs.Parameters.{Fits}
use Rattle.rtr_types.specs.declared.access.Access.{Access}
use Rattle.rtr_types.specs.declared.params.Params.{Params}
use Rattle.schedule_pick.specs.Choices.{Choices, choice_at}
use Rattle.conflict_edge.specs.Times.{IsExactClock}
use Rattle.machine_bound.specs.Ends.{end_of}
use Rattle.machine_plain.proofs.ForgetfulSteps.{plain_event as forgets_event}
use Rattle.msi_memory.specs.declared.port.Port.{Port}
use Rattle.msi_state.specs.Events.{Event, Accesses}
use Rattle.machine_plain.specs.Plain.{plain}
use Rattle.msi_state.specs.Runs.{accesses, chosen, event_at, event_by, plain_event, run}
use Rattle.msi_state.specs.States.{PlainState, State}
use Rattle.msi_state.specs.Steps.{event, retiring}
use Rattle.msi_state.specs.declared.moves.Move.{Move}
use Rattle.machine_times.proofs.RiderLaws.{times_absorb}
use Rattle.machine_times.proofs.MoveTimes.{finds_exact}
use Rattle.machine_times.specs.TimedSteps.{times_parts}
use Rattle.online_reduce.specs.Exact.{AreExactFor}
use Rattle.online_reduce.specs.Reduced.{clock_of, count_of}
use Rattle.exact_reduction.proofs.RetirementReduction.{event_exact}
use Rattle.know_history.specs.Knowledge.{known_carrying}
use Rattle.know_history.specs.declared.known.Known.{Known}
use Rattle.run_outcome.proofs.RetiredCounts.{run_tells}
use Rattle.run_records.proofs.RecordedRun.{StandsWell, enabled_here, reduction_counts, stands_at}
use Rattle.run_records.specs.Exactness.{ExactClocks, ExactClocksLaw, FoundTimesLaw, RetiredClockLaw}
use Rattle.run_records.specs.StandingAt.{Standing, found_by, next_move, reduction_at, standing_at}

pub exact_clocks : ExactClocksLaw
exact_clocks image params schedule t fits le =
    let w : Standing = standing_at image params schedule t in
    let h = (stands_at image params schedule fits t le).notes in
    record {
      counts = λ core lt. reduction_counts image params schedule t w.state w.reduction w.notes w.rest h core lt;
      clocks = λ core lt. h.reduces.reduction.exact.clocks core (omega (arith, lt, h.cores));
    }

pub retired_clock : RetiredClockLaw
retired_clock image params schedule t at fits lt has =
    let told = run_tells image params (choice_at schedule) t fits.cores (omega (arith, fits.limit)) in
    let exact : ExactClocks image params schedule (suc t) (reduction_at image params schedule (suc t)) =
    exact_clocks image params schedule (suc t) fits (omega (arith, lt)) in
    let core : at.core < params.cores = (told.next at has).core in
    let count : count_of (reduction_at image params schedule (suc t)) at.core ≡ at.count =
    exact.counts at.core core ∙ sym (told.reached at has) in
    subst (λ (n : ℕ). IsExactClock (accesses image params (choice_at schedule) (suc t)) (record {
      core =
          at.core;
      count = n;
    })
    (clock_of (reduction_at image params schedule (suc t)) at.core)) count (exact.clocks at.core core)

-- ---- the times that an access finds

no_access : (a : Access) (s : PlainState) (taken : Option Move) → taken ≡ None → event_by s taken ≡ Accesses a → ⊥
no_access a s taken none is = let nothing = ap (event_by s) none in absurd cc

module _ (image : Contents) (params : Params) (schedule : Choices) (t : ℕ) (a : Access) (fits : Fits params)
    (lt : t < end_of image params (choice_at schedule)) (is : event_at image params (choice_at schedule) t ≡ Accesses a)
  where
    abbrev choices : ℕ → ℕ
    choices = choice_at schedule

    h : StandsWell image params schedule t (standing_at image params schedule t)
    h = stands_at image params schedule fits t (omega (arith, lt))

    -- the recorder's machine takes the run's move
    here : next_move (standing_at image params schedule t) ≡ chosen (run image params (choice_at schedule) t)
        (choice_at schedule t)
    here =
        ap (chosen (plain (standing_at image params schedule t).state)) (h.notes.run.rest_is 0
        ∙ ap choices (omega arith))
        ∙ ap (λ (u : PlainState). chosen u (choices t)) h.notes.run.state

    found_exactly : (o : Option Move) → next_move (standing_at image params schedule t) ≡ o
        → AreExactFor (accesses image params (choice_at schedule) t) a (found_by (standing_at image params schedule t)
        o)
    found_exactly None none =
        absurd (no_access a (run image params choices t) (chosen (run image params choices t) (choices t)) (sym here
        ∙ none) is)
    found_exactly (Some m) some =
        let w : Standing = standing_at image params schedule t in
        let s : State Times Known = w.state in
        let e : Event = event times_riding known_carrying s m in
        let p : Port Times Known = retiring times_riding known_carrying s m in
        let accessed : e ≡ Accesses a =
        forgets_event times_riding known_carrying s m
        ∙ ap (λ (u : PlainState). plain_event u m) h.notes.run.state
        ∙ sym (ap (event_by (run image params choices t)) (sym here ∙ some))
        ∙ is in
        let can = enabled_here s (choice_at w.rest 0) m some in
        event_exact e p h.notes.list (accesses image params choices t) h.notes.reduces.accesses_are
        h.notes.reduces.exact
        (λ b is_b. finds_exact times_parts known_carrying times_absorb (reverse h.notes.list) s m b h.holds can is_b
        h.notes.machine)
        a accessed

pub found_times : FoundTimesLaw
found_times image params schedule t a fits lt is =
    found_exactly image params schedule t a fits lt is (next_move (standing_at image params schedule t)) refl
