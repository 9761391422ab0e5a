-- Rule: what a run comes to: outcome_of
-- What a run of the machine comes to.
use Rattle.std.specs.Prelude.{◌≡◌, ℕ, ◌<◌, ◌≤◌, All, List, length, map}
use Rattle.rtr_types.specs.Parameters.{Fits}
use Rattle.std.specs.List.{range_with_len}
use Rattle.image_mem.specs.Contents.{Contents}
use Rattle.rtr_types.specs.declared.params.Params.{Params}
use Rattle.rv_core.specs.declared.outcome.LoadNote.{LoadNote}
use Rattle.rv_core.specs.declared.outcome.Outcome.{Outcome}
use Rattle.schedule_pick.specs.Choices.{Choices, choice_at}
use Rattle.schedule_pick.specs.Standing.{StandsIn}
pub use Rattle.machine_bound.specs.Ends.{end_of}
use Rattle.msi_state.specs.States.{PlainState, all_done}
use Rattle.msi_state.specs.Runs.{accesses, loads_of, outcome_at, run}

-- the outcome of the run of an image with these parameters under a schedule
unfoldable pub outcome_of : Contents → Params → Choices → Outcome
outcome_of image params schedule =
    outcome_at image params (choice_at schedule) (end_of image params (choice_at schedule))

-- the outcome is one of a run of the image with these parameters: its cores are within the limit, and its
-- memory is the image's, from which each load is
pub record RunFits (image : Contents) (params : Params) (outcome : Outcome) : Type 0 where
  pub cores : length outcome.cores ≡ params.cores
  pub counts : All (λ k. k.count ≤ params.limit) outcome.cores
  pub words : length outcome.words ≡ image.words
  pub lists : length outcome.loads ≡ params.cores
  pub within : All (λ notes. All (λ note. note.word < image.words) notes) outcome.loads

abbrev pub RunFitsLaw : Type 0
RunFitsLaw =
    (image : Contents) (params : Params) (schedule : Choices) → Fits params → image.words ≡ params.words
    → RunFits image params (outcome_of image params schedule)

-- a machine in this state, with these choices left, stands t choices into the run, which hasn't ended before
abbrev pub RunsAt : Contents → Params → Choices → (t : ℕ) → PlainState → (rest : Choices) → Type 0
RunsAt image params schedule t s rest =
    StandsIn (run image params) all_done (λ (now : PlainState). length now.cores) params.cores schedule t s rest

-- and these loads were told
pub record StandsAt (image : Contents) (params : Params) (schedule : Choices) (t : ℕ) (s : PlainState)
    (loads : List (List LoadNote)) (rest : Choices) : Type 0 where
  pub runs : RunsAt image params schedule t s rest
  pub loads_are : loads
      ≡ map (λ c. loads_of c (accesses image params (choice_at schedule) t)) (range_with_len 0 params.cores)
