-- Where a machine stands in its run, from its start to its end.
use Rattle.std.proofs.Common.{◌≡◌, refl, sym, ap, ◌∙◌, [], ℕ, suc, ◌+◌, ◌<◌, true, false, List, ◌++◌, length}
use Rattle.std.proofs.Common.{Some, arith, inl, inr}
use Rattle.std.specs.Prelude.{map, replicate}
use Rattle.std.specs.List.{range_with_len}
use Rattle.std.proofs.lemmas.Bool.{cases_eq}
use Rattle.std.proofs.lemmas.List.FromFn.{length-map-range_with_len}
use Rattle.access_times.specs.Riding.{none_riding, none_carrying}
use Rattle.image_mem.specs.Contents.{Contents}
use Rattle.rtr_types.specs.Parameters.{Fits}
use Rattle.rtr_types.specs.declared.params.Params.{Params}
use Rattle.rv_core.specs.declared.outcome.LoadNote.{LoadNote}
use Rattle.rv_core.specs.declared.outcome.Outcome.{Outcome}
use Rattle.schedule_pick.specs.Choices.{Choices, choice_at, choices_after}
use Rattle.schedule_pick.proofs.ChoiceLemmas.{following_law}
use Rattle.tso_bound.specs.Ends.{end_of}
use Rattle.tso_bound.proofs.RunEnds.{end_done, holds_run, one_first, run_cores, run_ends}
use Rattle.tso_state.specs.declared.moves.Move.{Move}
use Rattle.tso_state.specs.Events.{Told}
use Rattle.tso_state.specs.FinalMemory.{final_memory}
use Rattle.tso_state.specs.Runs.{all_told, chosen, opening_state, outcome_at, plain_step, plain_told, reads, run}
use Rattle.tso_state.specs.Runs.{stepped_by, told_by}
use Rattle.tso_state.specs.States.{BufferedCore, PlainState, all_done, buffered_start, core_at}
use Rattle.tso_told.proofs.ToldRuns.{told_all_reads}
use Rattle.tso_outcome.specs.Loads.{loads_told}
use Rattle.tso_outcome.specs.Outcomes.{RunEnds, RunsAt, StandsAt, ToldLoadsLaw, told_loads, tso_outcome_of}
use Rattle.tso_outcome.proofs.ByCore.{no_items, same_lists}
use Rattle.tso_outcome.proofs.ToldLoads.{core_loads, lists_told}

-- ---- the start

pub runs_start : (image : Contents) (params : Params) (schedule : Choices) (s : PlainState) →
    s ≡ opening_state image params → RunsAt image params schedule 0 s schedule
runs_start image params schedule s is = record {
  state = is;
  cores = ap (λ (u : PlainState). length u.cores) is
      ∙ length-map-range_with_len (λ (id : ℕ). buffered_start id params.limit) 0 params.cores;
  rest_is = λ u. ap (choice_at schedule) (omega arith);
  going = λ u before. absurd (omega (arith, before));
}

pub stands_start : (image : Contents) (params : Params) (schedule : Choices) (s : PlainState)
    (loads : List (List LoadNote)) → s ≡ opening_state image params → loads ≡ replicate params.cores [] →
    StandsAt image params schedule 0 s loads schedule
stands_start image params schedule s loads is none = record {
  runs = runs_start image params schedule s is;
  loads_are = none ∙ sym (no_items (core_loads []) 0 params.cores (λ c. refl));
}

-- ---- one step

-- the step that the next choice takes
pub record Steps (s s' : PlainState) (rest rest' : Choices) (m : Move) : Type 0 where
  pub taken : chosen s (choice_at rest 0) ≡ Some m
  pub state : s' ≡ plain_step s m
  pub left : rest' ≡ choices_after rest

-- the step that is taken by the next choice
pub steps_by : {s s' : PlainState} {rest rest' : Choices} {m : Move} {choice : ℕ} → choice ≡ choice_at rest 0 →
    chosen s choice ≡ Some m → s' ≡ plain_step s m → rest' ≡ choices_after rest → Steps s s' rest rest' m
steps_by {s} {s'} {rest} {rest'} {m} {choice} number taken state left =
    record { taken = ap (chosen s) (sym number) ∙ taken; state = state; left = left }

module _ (image : Contents) (params : Params) (schedule : Choices) (t : ℕ) (s s' : PlainState) (rest rest' : Choices)
    (m : Move) where
  -- it is the one that the run takes
  pub taken_there : Steps s s' rest rest' m → RunsAt image params schedule t s rest →
      chosen (run image params (choice_at schedule) t) (choice_at schedule t) ≡ Some m
  taken_there steps stands =
      let choices : ℕ → ℕ = choice_at schedule in
      let number : choice_at rest 0 ≡ choices t = stands.rest_is 0 ∙ ap choices (omega arith) in
      ap (λ (u : PlainState). chosen u (choices t)) (sym stands.state) ∙ ap (chosen s) (sym number) ∙ steps.taken

  pub runs_next : all_done s ≡ false → Steps s s' rest rest' m → RunsAt image params schedule t s rest →
      RunsAt image params schedule (suc t) s' rest'
  runs_next going steps stands =
      let choices : ℕ → ℕ = choice_at schedule in
      let here : run image params choices t ≡ s = sym stands.state in
      let state : s' ≡ run image params choices (suc t) =
      steps.state ∙ ap (λ (u : PlainState). plain_step u m) (sym here)
      ∙ sym (ap (stepped_by (run image params choices t)) (taken_there steps stands)) in
      record {
        state = state;
        cores = ap (λ (u : PlainState). length u.cores) state ∙ run_cores image params choices (suc t);
        rest_is = λ u. ap (λ (c : Choices). choice_at c u) steps.left ∙ following_law rest u ∙ stands.rest_is (u + 1)
            ∙ ap choices (omega arith);
        going = λ u before. elim (cases_eq u t) [
          | inl same ↦ ap (λ v. all_done (run image params choices v)) same ∙ ap all_done here ∙ going
          | inr other ↦ stands.going u (omega (arith, before, other))
        ];
      }

  -- what was told then is what the step tells
  pub told_next : Steps s s' rest rest' m → RunsAt image params schedule t s rest →
      all_told image params (choice_at schedule) (suc t)
      ≡ all_told image params (choice_at schedule) t ++ plain_told s m
  told_next steps stands =
      let choices : ℕ → ℕ = choice_at schedule in
      ap (λ (list : List Told). all_told image params choices t ++ list)
      (ap (told_by (run image params choices t)) (taken_there steps stands)
      ∙ ap (λ (u : PlainState). plain_told u m) (sym stands.state))

  -- and is noted among the loads
  pub stands_next : (loads loads' : List (List LoadNote)) → all_done s ≡ false → Steps s s' rest rest' m →
      loads' ≡ loads_told loads (plain_told s m) → StandsAt image params schedule t s loads rest →
      StandsAt image params schedule (suc t) s' loads' rest'
  stands_next loads loads' going steps told stands =
      let choices : ℕ → ℕ = choice_at schedule in
      record {
        runs = runs_next going steps stands.runs;
        loads_are =
            told ∙ ap (λ (lists : List (List LoadNote)). loads_told lists (plain_told s m)) stands.loads_are
            ∙ lists_told (all_told image params choices t) (plain_told s m) params.cores
            ∙ ap (λ (list : List Told). map (core_loads list) (range_with_len 0 params.cores))
            (sym (told_next steps stands.runs));
      }

-- ---- the end

-- where a run that is done stands is its end
pub runs_end : (image : Contents) (params : Params) (schedule : Choices) (t : ℕ) (s : PlainState) (rest : Choices) →
    Fits params → all_done s ≡ true → RunsAt image params schedule t s rest →
    t ≡ end_of image params (choice_at schedule)
runs_end image params schedule t s rest fits done stands =
    let choices : ℕ → ℕ = choice_at schedule in
    one_first (λ u. all_done (run image params choices u)) t (end_of image params choices)
    (record { done = sym (ap all_done stands.state) ∙ done; first = stands.going })
    (run_ends image params choices (record { cores = fits.cores; limit = omega (arith, fits.limit) }))

-- each core's number is its place
pub numbered : (image : Contents) (params : Params) (schedule : Choices) (t : ℕ) (s : PlainState) (rest : Choices) →
    Fits params → RunsAt image params schedule t s rest → (c : ℕ) → c < length s.cores → (core_at s.cores c).core.id ≡ c
numbered image params schedule t s rest fits stands c within =
    let holds = holds_run image params (choice_at schedule) t fits.cores (omega (arith, fits.limit)) in
    ap (λ (u : PlainState). (core_at u.cores c).core.id) stands.state
    ∙ (holds.cores c (omega (arith, within, ap (λ (u : PlainState). length u.cores) stands.state))).fits.number

-- what was told of the loads at the end of a run is what they read
all_loads : (image : Contents) (params : Params) (choices : ℕ → ℕ) (t : ℕ) → Fits params →
    all_done (run image params choices t) ≡ true →
    told_loads image params choices t ≡ (outcome_at image params choices t).loads
all_loads image params choices t fits done =
    same_lists (core_loads (all_told image params choices t)) (λ (c : ℕ). reads image params choices t c) 0 params.cores
    (λ c le lt.
    let within : c < params.cores = omega (arith, lt) in
    sym (told_all_reads image params choices t c fits.cores (omega (arith, fits.limit)) within done))

pub told_loads_law : ToldLoadsLaw
unfolding tso_outcome_of
told_loads_law image params schedule fits =
    let choices : ℕ → ℕ = choice_at schedule in
    all_loads image params choices (end_of image params choices) fits
    (end_done image params choices (record { cores = fits.cores; limit = omega (arith, fits.limit) }))

-- the run ends there
pub run_ends_so : (image : Contents) (params : Params) (schedule : Choices) → Fits params → RunEnds image params schedule
run_ends_so image params schedule fits =
    run_ends image params (choice_at schedule) (record { cores = fits.cores; limit = omega (arith, fits.limit) })

-- a state that is done has the cores and the memory of the run's outcome
pub cores_are : (image : Contents) (params : Params) (schedule : Choices) (t : ℕ) (s : PlainState) (rest : Choices) →
    Fits params → all_done s ≡ true → RunsAt image params schedule t s rest →
    map (λ (c : BufferedCore). c.core) s.cores ≡ (tso_outcome_of image params schedule).cores
unfolding tso_outcome_of
cores_are image params schedule t s rest fits done stands =
    ap (λ (u : PlainState). map (λ (c : BufferedCore). c.core) u.cores) stands.state
    ∙ ap (λ u. (outcome_at image params (choice_at schedule) u).cores)
    (runs_end image params schedule t s rest fits done stands)

-- and the whole outcome, with the loads that were told
pub outcome_is : (image : Contents) (params : Params) (schedule : Choices) (t : ℕ) (s : PlainState)
    (loads : List (List LoadNote)) (rest : Choices) → Fits params → all_done s ≡ true →
    StandsAt image params schedule t s loads rest →
    record {
      cores = map (λ (c : BufferedCore). c.core) s.cores;
      words = final_memory none_riding none_carrying s;
      loads = loads;
    } ≡ tso_outcome_of image params schedule
unfolding tso_outcome_of
outcome_is image params schedule t s loads rest fits done stands =
    let choices : ℕ → ℕ = choice_at schedule in
    let last : t ≡ end_of image params choices = runs_end image params schedule t s rest fits done stands.runs in
    let ended : all_done (run image params choices t) ≡ true = sym (ap all_done stands.runs.state) ∙ done in
    let left : PlainState → List (List LoadNote) → Outcome = λ u ls. record {
      cores = map (λ (c : BufferedCore). c.core) u.cores;
      words = final_memory none_riding none_carrying u;
      loads = ls;
    } in
    ap (λ (u : PlainState). left u loads) stands.runs.state
    ∙ ap (left (run image params choices t)) (stands.loads_are ∙ all_loads image params choices t fits ended)
    ∙ ap (λ u. outcome_at image params choices u) last
