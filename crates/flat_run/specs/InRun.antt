-- Rule: where the flat machine stands in a run: StandsInRun
-- Where the flat machine stands in a run.
use Rattle.std.specs.Prelude.{ℕ, List}
use Rattle.image_mem.specs.Contents.{Contents}
use Rattle.rtr_types.specs.declared.params.Params.{Params}
use Rattle.rv_core.specs.declared.outcome.LoadNote.{LoadNote}
use Rattle.schedule_pick.specs.Choices.{Choices}
use Rattle.msi_state.specs.States.{PlainState}
use Rattle.run_outcome.specs.Outcomes.{StandsAt}
use Rattle.flat_state.specs.Shows.{Stands}
use Rattle.flat_machine.specs.Machines.{IsKept}
use Rattle.flat_machine.specs.declared.machine.FlatMachine.{FlatMachine}

-- the flat machine stands at a state that is t choices into the run, in which these loads were told, with these choices
-- left
pub record StandsInRun (m : FlatMachine) (loads : List (List LoadNote)) (rest : Choices) (image : Contents)
    (params : Params) (schedule : Choices) (t : ℕ) : Type 0 where
  pub s : PlainState
  pub memory : ℕ → List ℕ
  pub stands : Stands m.flat s memory
  pub kept : IsKept m
  pub runs : StandsAt image params schedule t s loads rest
