-- What the recorder has come to where no step is left: what the run is recorded as.
use Rattle.std.proofs.Common.{◌≡◌, ap, ℕ, true}
use Rattle.access_times.specs.declared.times.Times.{Times}
use Rattle.image_mem.specs.Contents.{Contents}
use Rattle.know_history.specs.declared.known.Known.{Known}
use Rattle.msi_state.specs.States.{State, all_done}
use Rattle.rtr_types.specs.Parameters.{Fits}
use Rattle.rtr_types.specs.declared.params.Params.{Params}
use Rattle.run_outcome.specs.Outcomes.{outcome_of}
use Rattle.run_records.proofs.RecordedEnd.{ended, lists_are, regulated_are, regulated_by}
use Rattle.run_records.specs.Clerks.{Noted}
use Rattle.run_records.specs.Recordings.{reduced_of, regulated_of, totals_of}
use Rattle.run_records.specs.Standing.{RecordsAt}
use Rattle.schedule_pick.specs.Choices.{Choices}

pub record IsRecorded (image : Contents) (params : Params) (schedule : Choices) (s : State Times Known) (c : Noted)
    : Type 0 where
  pub totals : totals_of s.cores ≡ totals_of (outcome_of image params schedule).cores
  pub reduced : c.reduction.state.lists ≡ reduced_of image params schedule
  pub regulated : c.regulation.regulation.vectors ≡ regulated_of image params schedule

pub recorded : (image : Contents) (params : Params) (schedule : Choices) (t : ℕ) (s : State Times Known) (c : Noted)
    (rest : Choices) → Fits params → all_done s ≡ true → s.image ≡ image
    → RecordsAt image params schedule t s c rest → IsRecorded image params schedule s c
recorded image params schedule t s c rest fits done same h =
    let r = c.reduction.state in
    let vectors = c.regulation.regulation.vectors in
    let at = ended image params schedule t s r h.history rest fits done h.notes in
    let by = regulated_by h.history c h.regulates in
    record {
      totals = ap totals_of at.cores_are;
      reduced = lists_are image params schedule s r h.history vectors fits same at by;
      regulated = regulated_are image params schedule s r h.history vectors fits same at by;
    }
