-- Rule: what a run with store buffers under a schedule comes to: tso_outcome_of, RunEnds
-- What a run of cores with store buffers comes to under a schedule, and where it stands before.
use Rattle.std.specs.Prelude.{◌≡◌, ℕ, List, length, map}
use Rattle.std.specs.List.{range_with_len}
use Rattle.image_mem.specs.Contents.{Contents}
use Rattle.rtr_types.specs.Parameters.{Fits}
use Rattle.rtr_types.specs.declared.params.Params.{Params}
use Rattle.rv_core.specs.declared.outcome.LoadNote.{LoadNote}
use Rattle.rv_core.specs.declared.outcome.Outcome.{Outcome}
use Rattle.schedule_pick.specs.Choices.{Choices, choice_at}
use Rattle.schedule_pick.specs.Standing.{StandsIn}
use Rattle.tso_bound.specs.Ends.{end_of}
use Rattle.tso_state.specs.Runs.{IsRunEnd, all_told, outcome_at, run}
use Rattle.tso_state.specs.States.{PlainState, all_done}
use Rattle.tso_told.specs.Played.{reads_told, told_of}

-- the outcome of the run of an image with these parameters under a schedule
unfoldable pub tso_outcome_of : Contents → Params → Choices → Outcome
tso_outcome_of image params schedule =
    outcome_at image params (choice_at schedule) (end_of image params (choice_at schedule))

-- the run ends where its outcome is taken: there each core's program is done and no access is pending, and at no moment
-- before
abbrev pub RunEnds : Contents → Params → Choices → Type 0
RunEnds image params schedule = IsRunEnd image params (choice_at schedule) (end_of image params (choice_at schedule))

-- a machine in this state, with these choices left, stands t choices into the run, which hasn't ended before
abbrev pub RunsAt : Contents → Params → Choices → (t : ℕ) → PlainState → (rest : Choices) → Type 0
RunsAt image params schedule t s rest =
    StandsIn (run image params) all_done (λ (now : PlainState). length now.cores) params.cores schedule t s rest

-- what each core's loads and atomic memory operations read that were told after t choices
abbrev pub told_loads : Contents → Params → (choices : ℕ → ℕ) → (t : ℕ) → List (List LoadNote)
told_loads image params choices t =
    map (λ c. reads_told (told_of c (all_told image params choices t))) (range_with_len 0 params.cores)

-- and these loads were told
pub record StandsAt (image : Contents) (params : Params) (schedule : Choices) (t : ℕ) (s : PlainState)
    (loads : List (List LoadNote)) (rest : Choices) : Type 0 where
  pub runs : RunsAt image params schedule t s rest
  pub loads_are : loads ≡ told_loads image params (choice_at schedule) t

-- At the end of a run what was told of its loads is what they read.
abbrev pub ToldLoadsLaw : Type 0
ToldLoadsLaw =
    (image : Contents) (params : Params) (schedule : Choices) → Fits params
    → told_loads image params (choice_at schedule) (end_of image params (choice_at schedule))
    ≡ (tso_outcome_of image params schedule).loads
