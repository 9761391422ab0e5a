-- The order in which a run's instructions retired.
use Rattle.std.specs.Prelude.{ℕ, List, map}
use Rattle.image_mem.specs.Contents.{Contents}
use Rattle.rtr_types.specs.declared.instr.Instr.{Instr}
use Rattle.rtr_types.specs.declared.params.Params.{Params}
use Rattle.schedule_pick.specs.Choices.{Choices, choice_at}
use Rattle.machine_bound.specs.Ends.{end_of}
use Rattle.msi_state.specs.Runs.{retirements}

-- the cores of instructions, in their order
abbrev pub cores_of : List Instr → List ℕ
cores_of list = map (λ at. at.core) list

-- the cores of the run's retirements, in the order in which they retired
unfoldable pub order_of : Contents → Params → Choices → List ℕ
order_of image params schedule =
    cores_of (retirements image params (choice_at schedule) (end_of image params (choice_at schedule)))
