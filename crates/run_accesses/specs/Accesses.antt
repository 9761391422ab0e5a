-- Rule: the accesses of a run under a schedule: accesses_of
-- The accesses of a run of cores without store buffers.
use Rattle.std.specs.Prelude.{◌≡◌, ℕ, List}
use Rattle.image_mem.specs.Contents.{Contents}
use Rattle.machine_bound.specs.Ends.{end_of}
use Rattle.msi_state.specs.Runs.{accesses}
use Rattle.msi_state.specs.States.{PlainState}
use Rattle.rtr_types.specs.declared.access.Access.{Access}
use Rattle.rtr_types.specs.declared.params.Params.{Params}
use Rattle.run_outcome.specs.Outcomes.{RunsAt}
use Rattle.schedule_pick.specs.Choices.{Choices, choice_at}

-- the accesses of the whole run, in the order in which their instructions retired
abbrev pub accesses_of : Contents → Params → Choices → List Access
accesses_of image params schedule =
    accesses image params (choice_at schedule) (end_of image params (choice_at schedule))

-- a machine in this state, with these choices left, stands t choices into the run, and the clerk has its accesses
pub record StandsAt (image : Contents) (params : Params) (schedule : Choices) (t : ℕ) (s : PlainState)
    (kept : List Access) (rest : Choices) : Type 0 where
  pub runs : RunsAt image params schedule t s rest
  pub kept_are : kept ≡ accesses image params (choice_at schedule) t
