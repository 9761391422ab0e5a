-- Which step a run without store buffers takes by a choice, and what that step tells of.
use Rattle.std.proofs.Common.{◌≡◌, ◌∙◌, refl, sym, ap, ℕ, suc, false, Some, arith}
use Rattle.image_mem.specs.Contents.{Contents}
use Rattle.rtr_types.specs.declared.params.Params.{Params}
use Rattle.schedule_pick.specs.Choices.{Choices, choice_at, choices_after}
use Rattle.msi_state.specs.declared.moves.Move.{Move}
use Rattle.msi_state.specs.Runs.{chosen, event_by, plain_event, plain_step, run}
use Rattle.msi_state.specs.States.{PlainState, all_done}
use Rattle.run_outcome.proofs.RunPlaces.{runs_next}
use Rattle.run_outcome.specs.Outcomes.{RunsAt}
use Rattle.hunt_runs.specs.PlainSeen.{changes_at, changes_in}

-- the step that a choice takes is the next of the run
pub stands_next : (image : Contents) (params : Params) (schedule : Choices) (t number : ℕ) (s s' : PlainState)
    (rest : Choices) (m : Move) → all_done s ≡ false → chosen s number ≡ Some m → s' ≡ plain_step s m →
    number ≡ choice_at rest 0 → RunsAt image params schedule t s rest →
    RunsAt image params schedule (suc t) s' (choices_after rest)
stands_next image params schedule t number s s' rest m going taken state is stands =
    runs_next image params schedule t s s' rest (choices_after rest) m going
    (record { taken = ap (chosen s) (sym is) ∙ taken; state = state; left = refl }) stands

-- what that step tells of
pub event_is : (image : Contents) (params : Params) (schedule : Choices) (t number : ℕ) (s : PlainState)
    (rest : Choices) (m : Move) → chosen s number ≡ Some m → number ≡ choice_at rest 0 →
    RunsAt image params schedule t s rest → changes_in (plain_event s m) ≡ changes_at image params schedule t
event_is image params schedule t number s rest m taken is stands =
    let choices : ℕ → ℕ = choice_at schedule in
    let here : run image params choices t ≡ s = sym stands.state in
    let same : choices t ≡ number = sym (is ∙ stands.rest_is 0 ∙ ap choices (omega arith)) in
    let there : chosen (run image params choices t) (choices t) ≡ Some m =
    ap (chosen (run image params choices t)) same ∙ ap (λ (u : PlainState). chosen u number) here ∙ taken in
    sym (ap changes_in (ap (event_by (run image params choices t)) there
    ∙ ap (λ (u : PlainState). plain_event u m) here))
