-- Where a run stands that is recorded.
use Rattle.std.specs.Prelude.{◌≡◌, ℕ, List}
use Rattle.image_mem.specs.Contents.{Contents}
use Rattle.rtr_types.specs.declared.params.Params.{Params}
use Rattle.schedule_pick.specs.Choices.{Choices, choice_at}
use Rattle.tso_recordings.specs.Schedules.{end_of}
use Rattle.tso_outcome.specs.Outcomes.{RunsAt}
use Rattle.tso_plain.specs.Plain.{plain}
use Rattle.tso_records.specs.Standings.{TimedState, standing_at}
use Rattle.tso_state.specs.Runs.{values_at}
use Rattle.tso_record.specs.Clerks.{Noted}

-- the machine, the clerk and the choices that are left stand t choices into the run, which hasn't ended before
pub record RecordsAt (image : Contents) (params : Params) (schedule : Choices) (t : ℕ) (s : TimedState) (c : Noted)
    (rest : Choices) : Type 0 where
  pub runs : RunsAt image params schedule t (plain s) rest
  pub state : s ≡ (standing_at image params (choice_at schedule) t).state
  pub reduction : c.reduction.state ≡ (standing_at image params (choice_at schedule) t).reduction
  pub values : c.values ≡ values_at image params (choice_at schedule) t

-- the edges of each pair of cores that the reduction has at the end of the run
abbrev pub last_lists : Contents → Params → Choices → List (List (ℕ × ℕ))
last_lists image params schedule =
    let choices = choice_at schedule in
    (standing_at image params choices (end_of image params choices)).reduction.lists
