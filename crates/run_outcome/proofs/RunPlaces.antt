-- Where a machine stands in its run, from its start to its end.
use Rattle.std.proofs.Common.{◌≡◌, refl, sym, ap, ◌∙◌, ℕ, zero, suc, ◌+◌, ◌<◌, true, false, List, [], ◌∷◌, ◌++◌}
use Rattle.std.proofs.Common.{append-nil, length, Some, arith, inl, inr}
use Rattle.std.specs.Prelude.{replicate}
use Rattle.std.proofs.lemmas.Bool.{cases_eq}
use Rattle.std.proofs.lemmas.List.FromFn.{length-map-range_with_len}
use Rattle.access_times.specs.Riding.{none_riding, none_carrying}
use Rattle.image_mem.specs.Contents.{Contents}
use Rattle.rtr_types.specs.Parameters.{Fits}
use Rattle.rtr_types.specs.declared.access.Access.{Access}
use Rattle.rtr_types.specs.declared.params.Params.{Params}
use Rattle.rv_core.specs.declared.outcome.LoadNote.{LoadNote}
use Rattle.schedule_pick.specs.Choices.{Choices, choice_at, choices_after}
use Rattle.schedule_pick.proofs.ChoiceLemmas.{following_law}
use Rattle.msi_state.specs.declared.moves.Move.{Move}
use Rattle.msi_state.specs.Events.{Event, Nothing, Retires, Accesses}
use Rattle.machine_plain.specs.Plain.{plain}
use Rattle.msi_state.specs.States.{PlainState, State, all_done, core_at}
use Rattle.msi_state.specs.Runs.{IsRunEnd, accesses, accesses_in, chosen, event_by, opening_state, outcome_at}
use Rattle.msi_state.specs.Runs.{plain_event, plain_step, run, stepped_by}
use Rattle.rv_core.specs.States.{starting}
use Rattle.rv_core.specs.declared.outcome.Outcome.{Outcome}
use Rattle.msi_state.specs.FinalMemory.{final_memory}
use Rattle.machine_bound.specs.Ends.{end_of}
pub use Rattle.machine_bound.proofs.RunEnds.{run_ends}
use Rattle.machine_bound.proofs.Firsts.{one_first}
use Rattle.machine_plain.proofs.Shows.{plain_done}
use Rattle.machine_invariant.specs.Holds.{MachineHolds}
use Rattle.machine_invariant.proofs.StartInvariant.{holds_run}
use Rattle.machine_invariant.proofs.StepFrame.{step_cores}
use Rattle.run_outcome.specs.Loads.{lists_told}
use Rattle.run_outcome.specs.Outcomes.{RunsAt, StandsAt, outcome_of}
use Rattle.run_outcome.proofs.NotedLoads.{lists_of, lists_more}

-- no loads yet
pub no_loads : (from n : ℕ) → lists_of [] from n ≡ replicate n []
no_loads from zero = refl
no_loads from (suc n) = ap (λ (lists : List (List LoadNote)). [] ∷ lists) (no_loads (from + 1) n)

-- before the first choice
pub runs_start : (image : Contents) (params : Params) (schedule : Choices) (s : PlainState) →
    s ≡ opening_state image params →
    RunsAt image params schedule 0 s schedule
runs_start image params schedule s is = record {
  state = is;
  cores = ap (λ (u : PlainState). length u.cores) is ∙ length-map-range_with_len (λ (id : ℕ). starting id params.limit)
      0 params.cores;
  rest_is = λ u. ap (choice_at schedule) (omega arith);
  going = λ u before. absurd (omega (arith, before));
}

pub stands_start : (image : Contents) (params : Params) (schedule : Choices) (s : PlainState)
    (loads : List (List LoadNote)) → s ≡ opening_state image params →
    loads ≡ replicate params.cores [] →
    StandsAt image params schedule 0 s loads schedule
stands_start image params schedule s loads is none = record {
  runs = runs_start image params schedule s is;
  loads_are = none ∙ sym (no_loads 0 params.cores);
}

-- the lists after one more event
lists_event : (xs : List Access) (e : Event) (n : ℕ) → lists_told (lists_of xs 0 n) e ≡ lists_of (xs ++ accesses_in e) 0
    n
lists_event xs Nothing n = ap (λ ys. lists_of ys 0 n) (sym (append-nil xs))
lists_event xs (Retires at) n = ap (λ ys. lists_of ys 0 n) (sym (append-nil xs))
lists_event xs (Accesses a) n = lists_more xs a n

-- the step that the next choice takes
pub record Steps (s s' : PlainState) (rest rest' : Choices) (m : Move) : Type 0 where
  pub taken : chosen s (choice_at rest 0) ≡ Some m
  pub state : s' ≡ plain_step s m
  pub left : rest' ≡ choices_after rest

-- the step that is taken by the next choice
pub steps_by : {s s' : PlainState} {rest rest' : Choices} {m : Move} {choice : ℕ} → choice ≡ choice_at rest 0 →
    chosen s choice ≡ Some m → s' ≡ plain_step s m → rest' ≡ choices_after rest → Steps s s' rest rest' m
steps_by {s} {s'} {rest} {rest'} {m} {choice} number taken state left =
    record { taken = ap (chosen s) (sym number) ∙ taken; state = state; left = left }

-- it is the one that the run takes
taken_there : (image : Contents) (params : Params) (schedule : Choices) (t : ℕ) (s s' : PlainState)
    (rest rest' : Choices) (m : Move) →
    Steps s s' rest rest' m → RunsAt image params schedule t s rest →
    chosen (run image params (choice_at schedule) t) (choice_at schedule t) ≡ Some m
taken_there image params schedule t s s' rest rest' m steps stands =
    let choices : ℕ → ℕ = choice_at schedule in
    let number : choice_at rest 0 ≡ choices t = stands.rest_is 0 ∙ ap choices (omega arith) in
    ap (λ (u : PlainState). chosen u (choices t)) (sym stands.state) ∙ ap (chosen s) (sym number) ∙ steps.taken

pub runs_next : (image : Contents) (params : Params) (schedule : Choices) (t : ℕ) (s s' : PlainState)
    (rest rest' : Choices) (m : Move) →
    all_done s ≡ false → Steps s s' rest rest' m → RunsAt image params schedule t s rest →
    RunsAt image params schedule (suc t) s' rest'
runs_next image params schedule t s s' rest rest' m going steps stands =
    let choices : ℕ → ℕ = choice_at schedule in
    let here : run image params choices t ≡ s = sym stands.state in
    let taken = taken_there image params schedule t s s' rest rest' m steps stands in
    record {
      state = steps.state ∙ ap (λ (u : PlainState). plain_step u m) (sym here)
          ∙ sym (ap (stepped_by (run image params choices t)) taken);
      cores = ap (λ (u : PlainState). length u.cores) steps.state ∙ step_cores none_riding none_carrying tt s m
          ∙ stands.cores;
      rest_is = λ u. ap (λ (c : Choices). choice_at c u) steps.left ∙ following_law rest u ∙ stands.rest_is (u + 1)
          ∙ ap choices (omega arith);
      going = λ u before. elim (cases_eq u t) [
        | inl same ↦ ap (λ v. all_done (run image params choices v)) same ∙ ap all_done here
            ∙ going
        | inr other ↦ stands.going u (omega (arith, before, other))
      ];
    }

-- and what it tells of is noted among the loads
pub stands_next : (image : Contents) (params : Params) (schedule : Choices) (t : ℕ) (s s' : PlainState)
    (loads loads' : List (List LoadNote))
    (rest rest' : Choices) (m : Move) →
    all_done s ≡ false → Steps s s' rest rest' m → loads' ≡ lists_told loads (plain_event s m) →
    StandsAt image params schedule t s loads rest → StandsAt image params schedule (suc t) s' loads' rest'
stands_next image params schedule t s s' loads loads' rest rest' m going steps told stands =
    let choices : ℕ → ℕ = choice_at schedule in
    let here : run image params choices t ≡ s = sym stands.runs.state in
    let taken = taken_there image params schedule t s s' rest rest' m steps stands.runs in
    record {
      runs = runs_next image params schedule t s s' rest rest' m going steps stands.runs;
      loads_are =
          told ∙ ap (λ (lists : List (List LoadNote)). lists_told lists (plain_event s m)) stands.loads_are
          ∙ lists_event (accesses image params choices t) (plain_event s m) params.cores
          ∙ ap (λ (e : Event). lists_of (accesses image params choices t ++ accesses_in e) 0 params.cores)
          (ap (λ (u : PlainState). plain_event u m) (sym here)
          ∙ sym (ap (event_by (run image params choices t)) taken));
    }

-- where a run that is done stands is its end
pub runs_end : (image : Contents) (params : Params) (schedule : Choices) (t : ℕ) (s : PlainState) (rest : Choices) →
    all_done s ≡ true → RunsAt image params schedule t s rest → IsRunEnd image params (choice_at schedule) t
runs_end image params schedule t s rest done stands = record {
  done = sym (ap all_done stands.state) ∙ done;
  first = stands.going;
}

-- each core's number is its place
pub numbered : {R K : Type 0} (image : Contents) (params : Params) (schedule : Choices) (t : ℕ) (s : State R K)
    (rest : Choices) →
    Fits params → RunsAt image params schedule t (plain s) rest → (c : ℕ) → c < length s.cores →
    (core_at s.cores c).id ≡ c
numbered {R} {K} image params schedule t s rest fits stands c within =
    let holds : MachineHolds none_riding none_carrying (run image params (choice_at schedule) t) =
    holds_run image params (choice_at schedule) t fits.cores (omega (arith, fits.limit)) in
    ap (λ (u : PlainState). (core_at u.cores c).id) stands.state
    ∙ (holds.cores c (omega (arith, within, ap (λ (u : PlainState). length u.cores) stands.state))).number

-- no choice comes after the last one
pub at_end : {R K : Type 0} (image : Contents) (params : Params) (schedule : Choices) (t : ℕ) (s : State R K)
    (rest : Choices) →
    Fits params → all_done s ≡ true → RunsAt image params schedule t (plain s) rest →
    t ≡ end_of image params (choice_at schedule)
at_end {R} {K} image params schedule t s rest fits done stands =
    let choices : ℕ → ℕ = choice_at schedule in
    one_first (λ u. all_done (run image params choices u)) t (end_of image params choices)
    (runs_end image params schedule t (plain s) rest (sym (plain_done s) ∙ done) stands)
    (run_ends image params choices (record { cores = fits.cores; limit = omega (arith, fits.limit) }))

-- the cores of a run's outcome, read off where it ended
pub cores_are : {R K : Type 0} (image : Contents) (params : Params) (schedule : Choices) (t : ℕ) (s : State R K)
    (rest : Choices) →
    Fits params → all_done s ≡ true → RunsAt image params schedule t (plain s) rest →
    s.cores ≡ (outcome_of image params schedule).cores
unfolding outcome_of
cores_are {R} {K} image params schedule t s rest fits done stands =
    ap (λ (u : PlainState). u.cores) stands.state
    ∙ ap (λ u. (outcome_at image params (choice_at schedule) u).cores) (at_end image params schedule t s rest fits done
    stands)

-- and the whole outcome, with the loads that were told
pub outcome_is : {R K : Type 0} (image : Contents) (params : Params) (schedule : Choices) (t : ℕ) (s : State R K)
    (loads : List (List LoadNote))
    (rest : Choices) →
    Fits params → all_done s ≡ true → StandsAt image params schedule t (plain s) loads rest →
    record {
      cores = s.cores;
      words = final_memory none_riding none_carrying (plain s);
      loads =
          loads;
    } ≡ outcome_of image params schedule
unfolding outcome_of
outcome_is {R} {K} image params schedule t s loads rest fits done stands =
    let choices : ℕ → ℕ = choice_at schedule in
    let last : t ≡ end_of image params choices = at_end image params schedule t s rest fits done stands.runs in
    let left : PlainState → List (List LoadNote) → Outcome =
    λ u ls. record { cores = u.cores; words = final_memory none_riding none_carrying u; loads = ls } in
    ap (λ (u : PlainState). left u loads) stands.runs.state ∙ ap (left (run image params choices t)) stands.loads_are
    ∙ ap (λ u. outcome_at image params choices u) last
