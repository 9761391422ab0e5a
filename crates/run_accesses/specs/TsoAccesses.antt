-- Rule: the accesses that a run with store buffers orders: tso_accesses_of
-- The accesses of a run of cores with store buffers.
use Rattle.std.specs.Prelude.{◌≡◌, ℕ, List}
use Rattle.image_mem.specs.Contents.{Contents}
use Rattle.rtr_types.specs.declared.access.Access.{Access}
use Rattle.rtr_types.specs.declared.params.Params.{Params}
use Rattle.schedule_pick.specs.Choices.{Choices, choice_at}
use Rattle.tso_bound.specs.Ends.{end_of}
use Rattle.tso_outcome.specs.Outcomes.{RunsAt}
use Rattle.tso_state.specs.Runs.{accesses}
use Rattle.tso_state.specs.States.{PlainState}

-- the accesses of the whole run, in the order in which they were ordered
abbrev pub tso_accesses_of : Contents → Params → Choices → List Access
tso_accesses_of image params schedule =
    accesses image params (choice_at schedule) (end_of image params (choice_at schedule))

-- a machine in this state, with these choices left, stands t choices into the run, and the clerk has its accesses
pub record StandsAt (image : Contents) (params : Params) (schedule : Choices) (t : ℕ) (s : PlainState)
    (kept : List Access) (rest : Choices) : Type 0 where
  pub runs : RunsAt image params schedule t s rest
  pub kept_are : kept ≡ accesses image params (choice_at schedule) t
